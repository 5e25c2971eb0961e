-- The ledger that a book and the lines of a sheet stand for. Assumes nothing.
use Rattle.guards.specs.Meaning.{Meaning}
use Rattle.sheet.specs.Ledger.{Ledger}
use Rattle.sheet.specs.declared.lines.Lines.{Lines}

abbrev pub of_lines : Meaning → Lines → Ledger
of_lines b t = record {
  book = b;
  equations = t.equations.items;
  variables = t.variables.items;
  occurrences = t.occurrences.items;
  assumed = t.assumed;
}
