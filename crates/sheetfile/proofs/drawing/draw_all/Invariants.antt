use Rattle.std.proofs.Common.{◌≡◌}
use Rattle.sheetfile.specs.Drawn.{all_drawn}
use Rattle.sheetfile.proofs.drawing.draw_all.Given as goal

abbrev pub invariant-loop-number : goal.invariant-loop-number
invariant-loop-number g l = record {
  same : l.number-iterator.file ≡ l.fn.file.file;
  left : all_drawn l.draft l.fn.file.file l.number-iterator.rest ≡ all_drawn l.fn.draft l.fn.file.file l.fn.file.rest;
}
