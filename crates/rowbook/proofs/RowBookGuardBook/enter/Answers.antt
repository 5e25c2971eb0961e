use Rattle.std.proofs.Common.{refl}
use Rattle.guards.proofs.Entries.{accepted, entered}
use Rattle.guards.specs.Meaning.{fresh}
use Rattle.rowbook.specs.RowBook.{of_rows}
use Rattle.rowbook.proofs.Stays.{width, count, with_all-append, stands_push}
use Rattle.rowbook.proofs.RowBookGuardBook.enter.Goals as goal

pub invariant_of-self-clause-stands : goal.invariant_of-self-clause-stands
invariant_of-self-clause-stands c =
    let x = c.args.self.now in
    let a = accepted _ _ c.args.entry c.in_ok-guard.guard c.in_ok-guard.ensures in
    rw c.push.ensures.items (stands_push x.switches x.entries.items c.args.entry x.stands (rw (width x, count x) at a.names))

pub returns : goal.returns
returns c =
    let x = c.args.self.now in
    entered (of_rows x) _ _ refl refl c.args.entry c.in_ok-guard.guard _ c.in_ok-guard.ensures
    (rw c.push.ensures.items (with_all-append (fresh x.switches) x.entries.items _))
