-- What a guard says where a question about it is declined. Assumes nothing.
use Rattle.std.proofs.Common.{◌≡◌, ℕ, ◌<◌, ◌≤◌, false, [], length, get_or, Ok, Err, refl, ap, ⊎_elim, arith}
use Rattle.std.proofs.lemmas.Bool.{cases_lt, lt-ltb}
use Rattle.std.proofs.lemmas.List.{get_or_past}
use Rattle.faults.specs.declared.Fault.{Fault}
use Rattle.faults.specs.Refusals.{refusal}
use Rattle.guards.specs.Meaning.{Meaning, Sound, says, modes}
use Rattle.guards.specs.Calls.{asked}

-- a question that is declined is about no guard or no mode of the book
pub none_says : (most : ℕ) (b : Meaning) (g m : ℕ) (f : Fault) → Sound most b → Err (refusal f) ≡ asked b g m → says b g m ≡ false
none_says most b g m f s e =
    ⊎_elim
    (λ (i : g < length b.guards). ⊎_elim
    (λ (l : m < modes b). absurd (let z : asked b g m ≡ Ok (says b g m) = rw (lt-ltb g (length b.guards) i, lt-ltb m (modes b) l) refl in let w : ◌≡◌ {A = ℕ} 0 1 = cc in omega arith))
    (λ (l : modes b ≤ m). get_or_past (get_or b.guards g []) m false (omega (arith, s.rows g i)))
    (cases_lt m (modes b)))
    (λ (i : length b.guards ≤ g). ap (λ r. get_or r m false) (get_or_past b.guards g [] i))
    (cases_lt g (length b.guards))
