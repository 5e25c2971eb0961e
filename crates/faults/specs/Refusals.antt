-- What each refusal says: its number, the layer that declines, and its details in order. Assumes nothing.
use Rattle.std.specs.Prelude.{◌≡◌, ℕ, Bool, if◌then◌else◌, ◌||◌, List, [], ◌∷◌, ◌++◌, Some, None, Ok, Err, codes, Option, Result, ◌==◌, slice_index}
use Rattle.std.specs.Fmt.{decimal}
use Rattle.faults.specs.declared.Layer.{Layer}
use Rattle.faults.specs.declared.Layer.TheVariants.{File, Check, Book, Sheet}
use Rattle.faults.specs.declared.Fault.{Fault}
use Rattle.faults.specs.declared.Fault.TheVariants.{BadLength, BadHeader, BadLink, BadRecord, EndlessChain, TooLarge, NoSuchSwitch, NoSuchGuard, GuardsFull, NoSuchPlace, OrderTooHigh, OccurrencesFull, NothingToStrike, NoSuchMode, ModeNotAllowed, Uneven, Singular}

pub record Refusal : Type 0 where
  pub number : ℕ
  pub layer : Layer
  pub values : List ℕ

abbrev pub from_layer : Layer → ℕ → List ℕ → Refusal
from_layer l n vs = record { number = n; layer = l; values = vs }

-- details: the record concerned; both counts; a set of equations and the variables that they use, as words
abbrev pub refusal : Fault → Refusal
refusal BadLength = from_layer File 1 []
refusal BadHeader = from_layer File 2 []
refusal (BadLink r) = from_layer File 3 (r ∷ [])
refusal (BadRecord r) = from_layer File 4 (r ∷ [])
refusal EndlessChain = from_layer File 5 []
refusal TooLarge = from_layer Check 6 []
refusal NoSuchSwitch = from_layer Book 7 []
refusal NoSuchGuard = from_layer Book 8 []
refusal GuardsFull = from_layer Book 9 []
refusal NoSuchPlace = from_layer Sheet 10 []
refusal OrderTooHigh = from_layer Sheet 11 []
refusal OccurrencesFull = from_layer Sheet 12 []
refusal NothingToStrike = from_layer Sheet 13 []
refusal NoSuchMode = from_layer Book 14 []
refusal ModeNotAllowed = from_layer Sheet 15 []
refusal (Uneven es vs) = from_layer Sheet 16 (es ∷ vs ∷ [])
refusal (Singular es vs) = from_layer Sheet 17 (es ∷ vs ∷ [])

-- the record that a refusal names, none where it names none
abbrev pub record_named : Refusal → Option ℕ
record_named r = if r.number == 3 || r.number == 4 then Some (slice_index r.values 0) else None

-- an answer with its fault told by what it says
abbrev pub told : {A : Type 0} → Result A Fault → Result A Refusal
told (Ok a) = Ok a
told (Err f) = Err (refusal f)

-- what a check call answers: 0, or the bare number of the refusal
abbrev pub bare : Bool → Fault → ℕ
bare declined f = if declined then (refusal f).number else 0

-- no two faults say the same
abbrev pub ToldApart : Type 0
ToldApart = (f g : Fault) → refusal f ≡ refusal g → f ≡ g

-- a layer as it is printed
abbrev pub layer_name : Layer → List ℕ
layer_name File = codes "file"
layer_name Check = codes "check"
layer_name Book = codes "book"
layer_name Sheet = codes "sheet"

-- a refusal as it is printed
abbrev pub refusal_text : Refusal → List ℕ
refusal_text r = codes "refused " ++ decimal r.number ++ codes " by the " ++ layer_name r.layer
