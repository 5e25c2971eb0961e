use Rattle.std.proofs.Common.{◌≤◌}
use Rattle.matrices.proofs.print_modes.Given as goal

abbrev pub invariant-loop-mode : goal.invariant-loop-mode
invariant-loop-mode g l = l.allowed ≤ l.mode-counter
