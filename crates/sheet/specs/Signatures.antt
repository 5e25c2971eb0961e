-- The signature of a mode, read from the ledger. Assumes nothing.
use Rattle.std.specs.Prelude.{ℕ, Bool, Ok, Err, Result, nat_lt}
use Rattle.faults.specs.declared.Fault.{Fault}
use Rattle.faults.specs.declared.Fault.TheVariants.{NoSuchMode, ModeNotAllowed}
use Rattle.faults.specs.Refusals.{Refusal, refusal}
use Rattle.guards.specs.Meaning.{says, modes}
use Rattle.guards.specs.Calls.{provided}
use Rattle.sigma.specs.Signature.{Signature}
use Rattle.sigma.specs.Tables.{signature_of}
use Rattle.sigma.specs.declared.Table.{Table}
use Rattle.reading.specs.Signatures.{signature_by}
use Rattle.sheet.specs.Ledger.{Ledger}

abbrev pub signature : Ledger → ℕ → Signature
signature l m = signature_by l.book l.equations l.variables l.occurrences m

-- a mode is allowed when the assumed guard says yes
abbrev pub allowed : Ledger → ℕ → Bool
allowed l m = says l.book l.assumed m

-- what asking for the signature of a mode answers
abbrev pub signed : Ledger → ℕ → Result Signature Refusal
signed l m = provided (nat_lt m (modes l.book)) NoSuchMode (provided (allowed l m) ModeNotAllowed (Ok (signature l m)))

-- an answered table by the signature that it stands for
abbrev pub shown : Result Table Fault → Result Signature Refusal
shown (Ok t) = Ok (signature_of t)
shown (Err f) = Err (refusal f)
