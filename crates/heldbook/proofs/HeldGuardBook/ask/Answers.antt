use Rattle.std.proofs.Common.{◌≡◌, subst}
use Rattle.faults.specs.Refusals.{told}
use Rattle.guards.specs.Calls.{asked}
use Rattle.heldbook.proofs.Commutes.{under_answered}
use Rattle.heldbook.proofs.HeldGuardBook.ask.Goals as goal

pub returns : goal.returns
returns g c =
    let x = c.args.self.now in
    let mean = g.B.GuardBook.meaning in
    let below = subst (λ v. told c.ask.result ≡ asked (mean v.1) c.args.guard c.put.result) c.self.view_is c.ask.ensures in
    under_answered (mean x.1) _ (g.met.B.GuardBook.sound x.1) x.0 c.ask.result c.args.guard c.args.mode _ below c.put.ensures
