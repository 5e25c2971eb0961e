-- What drawing a record answers, and the ledger after it. Assumes nothing.
use Rattle.std.specs.Prelude.{◌≡◌, ℕ, List, [], ◌∷◌, ◌++◌, Some, None, Ok, Err, Option, Result, codes, unwrap_or}
use Rattle.std.specs.Fmt.{decimal}
use Rattle.faults.specs.declared.Fault.{Fault}
use Rattle.faults.specs.declared.Fault.TheVariants.{BadRecord}
use Rattle.faults.specs.Refusals.{Refusal, refusal, record_named}
use Rattle.sheet.specs.declared.call.Change.{Change}
use Rattle.sheet.specs.Ledger.{Ledger}
use Rattle.sheet.specs.Calls.{reply, step}
use Rattle.sheetfile.specs.declared.fault.FileFault.{FileFault}
use Rattle.sheetfile.specs.Format.{call_of, part_of}
use Rattle.sheetfile.specs.Reader.{Reader}

-- what a refusal in a file says: the refusal, and the record where it was met
pub record Meeting : Type 0 where
  pub said : Refusal
  pub at : Option ℕ

abbrev pub met_at : Option ℕ → Refusal → Meeting
met_at n f = record { said = f; at = n }

-- a meeting as it is printed, with 0 where no record is named
abbrev pub meeting_text : Meeting → List ℕ
meeting_text m = codes "refused " ++ decimal m.said.number ++ codes " record " ++ decimal (unwrap_or m.at 0)

abbrev pub meeting : FileFault → Meeting
meeting f = met_at f.«record» (refusal f.fault)

-- a fault with the record that it names itself
abbrev pub named_in : Fault → Meeting
named_in f = met_at (record_named (refusal f)) (refusal f)

abbrev pub told_met : {A : Type 0} → Result A FileFault → Result A Meeting
told_met (Ok a) = Ok a
told_met (Err f) = Err (meeting f)

-- an answer of the sheet, and the record where a refusal was met
abbrev pub located : {A : Type 0} → ℕ → Result A Refusal → Result (Unit {0}) Meeting
located n (Ok a) = Ok tt
located n (Err f) = Err (met_at (Some n) f)

-- a record that asks for no call is refused as opening would, and draws nothing
abbrev pub drawn : Ledger → ℕ → Option Change → Result (Unit {0}) Meeting
drawn l n None = Err (named_in (BadRecord n))
drawn l n (Some c) = located n (reply l c)

abbrev pub drawn_ledger : Ledger → Option Change → Ledger
drawn_ledger l None = l
drawn_ledger l (Some c) = step l c

-- drawing record n, of the bytes p, on a sheet whose ledger is l answers r and leaves the ledger x
pub record Draws (l : Ledger) (n : ℕ) (p : List ℕ) (r : Result (Unit {0}) FileFault) (x : Ledger) : Type 0 where
  pub given : told_met r ≡ drawn l n (call_of p)
  pub left : x ≡ drawn_ledger l (call_of p)

-- what drawing comes to: an answer, and a ledger
pub record Drawing : Type 0 where
  pub answer : Result (Unit {0}) Meeting
  pub left : Ledger

abbrev pub drawing : Ledger → ℕ → Option Change → Drawing
drawing l n c = record { answer = drawn l n c; left = drawn_ledger l c }

-- goes on where nothing was refused
abbrev pub onward : Drawing → Drawing → Drawing
onward here next = elim here.answer [ Ok u ↦ next | Err f ↦ here ]

-- the records of these numbers of the file f, drawn in turn up to the first that is refused
unfoldable pub all_drawn : Ledger → List ℕ → List ℕ → Drawing
all_drawn l f [] = record { answer = Ok tt; left = l }
all_drawn l f (n ∷ ns) = onward (drawing l n (call_of (part_of f n))) (all_drawn (drawn_ledger l (call_of (part_of f n))) f ns)

-- drawing all that a reader has to come answers r and leaves the ledger x
abbrev pub DrawsAll : Reader → Ledger → Result (Unit {0}) FileFault → Ledger → Type 0
DrawsAll file l r x = record { answer = told_met r; left = x } ≡ all_drawn l file.file file.rest
