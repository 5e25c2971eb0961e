use Rattle.std.proofs.Common.{◌≡◌, length}
use Rattle.guardtable.proofs.fill.Given as goal

abbrev pub invariant-loop : goal.invariant-loop
invariant-loop g l = length (g.B.GuardBook.meaning l.book).guards ≡ l.counter
