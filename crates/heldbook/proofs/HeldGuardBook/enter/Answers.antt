use Rattle.std.proofs.Common.{subst}
use Rattle.guards.specs.Calls.{Entered}
use Rattle.heldbook.specs.Held.{under, of_held}
use Rattle.heldbook.proofs.Commutes.{under_entered}
use Rattle.heldbook.proofs.HeldGuardBook.enter.Goals as goal

pub returns : goal.returns
returns g c =
    let x = c.self.inside in
    let mean = g.B.GuardBook.meaning in
    subst (λ v. Entered (of_held mean v) c.args.entry c.enter.result (under x.hold (mean c.enter.new.self))) c.self.view_is
    (under_entered (mean x.below) _ (g.met.B.GuardBook.sound x.below) x.hold c.args.entry c.enter.result _ c.enter.ensures)
