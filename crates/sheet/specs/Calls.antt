-- The drafting calls: what each answers, and the ledger after it. Assumes nothing.
use Rattle.std.specs.Prelude.{◌≡◌, ℕ, Bool, if◌then◌else◌, not, ◌&&◌, ◌||◌, List, [], ◌∷◌, ◌++◌, length, replicate, Ok, Err, filter, Result, ◌==◌, nat_lt, slice_set}
use Rattle.faults.specs.declared.Fault.{Fault}
use Rattle.faults.specs.declared.Fault.TheVariants.{NoSuchGuard, NoSuchPlace, OrderTooHigh, OccurrencesFull, NothingToStrike}
use Rattle.faults.specs.Refusals.{Refusal, told}
use Rattle.guards.specs.declared.entry.Entry.{Entry}
use Rattle.guards.specs.Meaning.{Meaning, with_guard}
use Rattle.guards.specs.Calls.{provided, answer, entry_says, settle}
use Rattle.reading.specs.declared.occurrence.Occurrence.{Occurrence}
use Rattle.sheet.specs.declared.call.Change.{Change}
use Rattle.sheet.specs.declared.call.Change.TheVariants.{Enter, Equation, Variable, Place, Strike, Assume}
use Rattle.sheet.specs.Ledger.{Ledger}

abbrev pub too_many : ℕ → ℕ → Bool
too_many equations variables = nat_lt 64 equations || nat_lt 64 variables

-- every equation and variable under guard 0, no occurrence, guard 0 assumed
abbrev pub fresh_sheet : Meaning → ℕ → ℕ → Ledger
fresh_sheet b n m = record { book = b; equations = replicate n 0; variables = replicate m 0; occurrences = []; assumed = 0 }

-- without equations and variables where the check refuses
abbrev pub new_sheet : Meaning → ℕ → ℕ → Ledger
new_sheet b n m = if too_many n m then fresh_sheet b 0 0 else fresh_sheet b n m

abbrev pub has_guard : Ledger → ℕ → Bool
has_guard l g = nat_lt g (length l.book.guards)

abbrev pub has_equation : Ledger → ℕ → Bool
has_equation l i = nat_lt i (length l.equations)

abbrev pub has_variable : Ledger → ℕ → Bool
has_variable l j = nat_lt j (length l.variables)

-- a strike that names i, j and g is about this occurrence
abbrev pub named : ℕ → ℕ → ℕ → Occurrence → Bool
named i j g o = o.equation == i && (o.variable == j && o.guard == g)

abbrev pub other : ℕ → ℕ → ℕ → Occurrence → Bool
other i j g o = not (named i j g o)

-- the occurrences that a strike is about, and those that stand after it
abbrev pub struck : Ledger → ℕ → ℕ → ℕ → List Occurrence
struck l i j g = filter (named i j g) l.occurrences

abbrev pub unstruck : Ledger → ℕ → ℕ → ℕ → List Occurrence
unstruck l i j g = filter (other i j g) l.occurrences

abbrev pub Reply : Type 0
Reply = Result (Unit {0}) Refusal

abbrev pub void : {A : Type 0} → Result A Refusal → Reply
void (Ok a) = Ok tt
void (Err f) = Err f

-- the checks of a drafting call, in their order
abbrev pub reply : Ledger → Change → Reply
reply l (Enter e) = void (answer l.book e)
reply l (Equation i g) = provided (has_guard l g) NoSuchGuard (provided (has_equation l i) NoSuchPlace (Ok tt))
reply l (Variable j g) = provided (has_guard l g) NoSuchGuard (provided (has_variable l j) NoSuchPlace (Ok tt))
reply l (Place i j o g) =
    provided (has_guard l g) NoSuchGuard (
    provided (has_equation l i && has_variable l j) NoSuchPlace (
    provided (nat_lt o 16) OrderTooHigh (
    provided (nat_lt (length l.occurrences) 512) OccurrencesFull (Ok tt))))
reply l (Strike i j g) =
    provided (has_guard l g) NoSuchGuard (
    provided (has_equation l i && has_variable l j) NoSuchPlace (
    provided (nat_lt 0 (length (struck l i j g))) NothingToStrike (Ok tt)))
reply l (Assume g) = provided (has_guard l g) NoSuchGuard (Ok tt)

abbrev pub occurs : ℕ → ℕ → ℕ → ℕ → Occurrence
occurs i j o g = record { equation = i; variable = j; order = o; guard = g }

-- what an accepted call makes of the ledger
abbrev pub changed : Ledger → Change → Ledger
changed l (Enter e) = record { book = with_guard l.book (entry_says l.book e); equations = l.equations; variables = l.variables; occurrences = l.occurrences; assumed = l.assumed }
changed l (Equation i g) = record { book = l.book; equations = slice_set l.equations i g; variables = l.variables; occurrences = l.occurrences; assumed = l.assumed }
changed l (Variable j g) = record { book = l.book; equations = l.equations; variables = slice_set l.variables j g; occurrences = l.occurrences; assumed = l.assumed }
changed l (Place i j o g) = record { book = l.book; equations = l.equations; variables = l.variables; occurrences = l.occurrences ++ (occurs i j o g ∷ []); assumed = l.assumed }
changed l (Strike i j g) = record { book = l.book; equations = l.equations; variables = l.variables; occurrences = unstruck l i j g; assumed = l.assumed }
changed l (Assume g) = record { book = l.book; equations = l.equations; variables = l.variables; occurrences = l.occurrences; assumed = g }

-- the ledger after a call: as it was where a check refuses
abbrev pub step : Ledger → Change → Ledger
step l c = settle (reply l c) (changed l c) l

-- a drafting call c on a sheet whose ledger is l answers r and leaves the ledger x
pub record Drafts (l : Ledger) (c : Change) (r : Result (Unit {0}) Fault) (x : Ledger) : Type 0 where
  pub given : told r ≡ reply l c
  pub left : x ≡ step l c

-- an entry answers the new guard's number besides
pub record Enters (l : Ledger) (e : Entry) (r : Result ℕ Fault) (x : Ledger) : Type 0 where
  pub given : told r ≡ answer l.book e
  pub left : x ≡ step l (Enter e)
