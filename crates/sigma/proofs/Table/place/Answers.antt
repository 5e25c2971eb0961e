use Rattle.std.proofs.Common.{get_or, sym, refl, arith, rules}
use Rattle.std.proofs.lemmas.List.{get_or_past}
use Rattle.sets.proofs.Members.{member_below, member-zero}
use Rattle.sigma.proofs.Table.place.Goals as goal

pub bounds-self-variable : goal.bounds-self-variable
bounds-self-variable c =
    member_below 64 (get_or c.args.self.now.across c.args.equation 0) c.args.variable (search rules) (sym c.if-not-has.ensures)

pub returns-then-equation-ge64 : goal.returns-then-equation-ge64
returns-then-equation-ge64 c =
    rw (get_or_past c.args.self.now.across c.args.equation 0 (omega arith), member-zero c.args.variable) refl
