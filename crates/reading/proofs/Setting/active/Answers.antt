use Rattle.std.proofs.Common.{◌≡◌, length, sym, ◌∙◌, arith}
use Rattle.std.proofs.lemmas.Bool.Decides.{nat_tests}
use Rattle.sets.proofs.Members.{member-zero}
use Rattle.reading.proofs.Tables.{active-take}
use Rattle.reading.proofs.Setting.active.Goals as goal

pub loop-k-init : goal.loop-k-init
loop-k-init g c = λ j. grind (arith, nat_tests, member-zero)

pub returns : goal.returns
returns g c =
    let n : length c.args.guards.now ≡ c.loop-k.k = omega arith in
    λ j. c.loop-k.invariant j ∙ sym (rw (active-take (g.B.GuardBook.meaning c.args.self.now.book.now) c.args.self.now.mode 64 c.args.guards.now j, n))
