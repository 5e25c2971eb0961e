-- A sheet's past, and the ledger that follows from it alone. Assumes nothing.
use Rattle.std.specs.Prelude.{ℕ}
use Rattle.guards.specs.Meaning.{Meaning}
use Rattle.sheet.specs.declared.call.Call.{Call}
use Rattle.sheet.specs.declared.call.Call.TheVariants.{Draft, Issue, Reopen, Read, Sweep}
use Rattle.sheet.specs.Ledger.{Ledger}
use Rattle.sheet.specs.Calls.{new_sheet, step}

-- the making, over a book and with numbers of equations and variables, and all later calls
pub data Past : Type 0 where
  making : Meaning → ℕ → ℕ → Past
  called : Past → Call → Past

-- the ledger after a call: issues, reopenings and readings change nothing
abbrev pub after_call : Ledger → Call → Ledger
after_call l (Draft c) = step l c
after_call l Issue = l
after_call l Reopen = l
after_call l (Read m) = l
after_call l Sweep = l

abbrev pub ledger_of : Past → Ledger
ledger_of (making b n m) = new_sheet b n m
ledger_of (called p c) = after_call (ledger_of p) c
