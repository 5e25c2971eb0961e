use Rattle.std.proofs.Common.{◌≡◌, ◌+◌, length}
use Rattle.rowbook.specs.RowBook.{of_rows}
use Rattle.rowbook.proofs.Passes.{Right}
use Rattle.rowbook.proofs.RowBook.answer.Given as goal

abbrev pub invariant-loop-i : goal.invariant-loop-i
invariant-loop-i l = (length l.answers ≡ 64) × Right l.answers (l.i + 1) (of_rows l.self) l.mode
