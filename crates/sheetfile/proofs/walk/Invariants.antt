use Rattle.std.proofs.Common.{◌≤◌}
use Rattle.sheetfile.specs.Format.{count_of}
use Rattle.sheetfile.proofs.Walks.{Way}
use Rattle.sheetfile.proofs.walk.Given as goal

abbrev pub invariant-loop : goal.invariant-loop
invariant-loop l = Way l.bytes l.counter l.at × (l.at ≤ count_of l.bytes)
