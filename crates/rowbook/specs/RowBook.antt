-- What a row book means. Assumes nothing.
use Rattle.guards.specs.Meaning.{Meaning, fresh}
use Rattle.rowbook.specs.declared.RowBook.{RowBook}
use Rattle.rowbook.specs.Rows.{with_all}

abbrev pub of_rows : RowBook → Meaning
of_rows x = with_all (fresh x.switches) x.entries.items
