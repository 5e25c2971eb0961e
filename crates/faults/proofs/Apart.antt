-- The fault that a refusal came from can be read off its number and its values. Assumes nothing.
use Rattle.std.proofs.Common.{◌≡◌, ℕ, List, [], ◌∷◌, get_or, sym, refl, ap, ◌∙◌}
use Rattle.faults.specs.declared.Fault.{Fault}
use Rattle.faults.specs.declared.Fault.TheVariants.{BadLength, BadHeader, BadLink, BadRecord, EndlessChain, TooLarge, NoSuchSwitch, NoSuchGuard, GuardsFull, NoSuchPlace, OrderTooHigh, OccurrencesFull, NothingToStrike, NoSuchMode, ModeNotAllowed, Uneven, Singular}
use Rattle.faults.specs.Refusals.{Refusal, refusal, ToldApart}

-- the faults in the order of their numbers, from 1, at two values
abbrev numbered : ℕ → ℕ → List Fault
numbered a b =
    BadLength ∷ BadHeader ∷ BadLink a ∷ BadRecord a ∷ EndlessChain ∷ TooLarge ∷ NoSuchSwitch ∷ NoSuchGuard ∷ GuardsFull ∷ NoSuchPlace ∷ OrderTooHigh ∷ OccurrencesFull ∷ NothingToStrike ∷ NoSuchMode ∷ ModeNotAllowed ∷ Uneven a b ∷ Singular a b ∷ []

abbrev source : Refusal → Fault
source r = get_or (BadLength ∷ numbered (get_or r.values 0 0) (get_or r.values 1 0)) r.number BadLength

source_is : (f : Fault) → source (refusal f) ≡ f
source_is BadLength = refl
source_is BadHeader = refl
source_is (BadLink r) = refl
source_is (BadRecord r) = refl
source_is EndlessChain = refl
source_is TooLarge = refl
source_is NoSuchSwitch = refl
source_is NoSuchGuard = refl
source_is GuardsFull = refl
source_is NoSuchPlace = refl
source_is OrderTooHigh = refl
source_is OccurrencesFull = refl
source_is NothingToStrike = refl
source_is NoSuchMode = refl
source_is ModeNotAllowed = refl
source_is (Uneven es vs) = refl
source_is (Singular es vs) = refl

pub told_apart : ToldApart
told_apart f g e = sym (source_is f) ∙ ap source e ∙ source_is g
