use Rattle.std.proofs.Common.{rules, ◌≡◌, ◌&&◌, true, subst, arith}
use Rattle.arrayvec.proofs.ArrayVecLemmas.{filter-from_retain}
use Rattle.sheet.specs.declared.call.Change.TheVariants.{Strike}
use Rattle.sheet.specs.Calls.{Drafts, has_guard, has_equation, has_variable, other, unstruck}
use Rattle.sheet.specs.Ledger.{Ledger}
use Rattle.sheet.specs.Lines.{of_lines}
use Rattle.sheet.proofs.Strikes.{some_struck, none_struck}
use Rattle.sheet.proofs.Draft.strike.Goals as goal
use Rattle.sheet.proofs.Draft.strike.Goals.{then-len-before, else-len-before}

pub returns : goal.returns
returns g c =
    let i = c.args.equation in
    let j = c.args.variable in
    let k = c.args.guard in
    let l = of_lines (g.B.GuardBook.meaning c.self.inside.book) c.self.inside.lines in
    let a : has_guard l k ≡ true = search rules in
    let e : (has_equation l i && has_variable l j) ≡ true = search rules in
    let kept : c.retain.new.self.items ≡ unstruck l i j k = filter-from_retain _ (other i j k) _ (λ x b f' y called. search rules) _ _ c.retain.ensures.filtered in
    let left : Ledger = record { book = l.book; equations = l.equations; variables = l.variables; occurrences = c.retain.new.self.items; assumed = l.assumed } in
    subst (λ x. Drafts x (Strike i j k) c.if-len-before.result left) c.self.view_is (elim c.if-len-before.branch [
      | then-len-before w ↦ rw w.result-is (some_struck l i j k c.retain.new.self.items a e kept (omega arith))
      | else-len-before w ↦ rw w.result-is (none_struck l i j k c.retain.new.self.items a e kept (omega arith))
    ])
