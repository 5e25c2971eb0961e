-- Rows of answers. Assumes nothing.
use Rattle.std.proofs.Common.{◌≡◌, ℕ, ◌<◌, Bool, false, length, get_or, ◌∙◌, arith}
use Rattle.std.proofs.lemmas.List.FromFn.{length-map-range_with_len, get_or-map-range_with_len, fill_by_all}
use Rattle.guards.specs.Meaning.{row}

pub row_at : (n : ℕ) (f : ℕ → Bool) (m : ℕ) → m < n → get_or (row n f) m false ≡ f m
row_at n f m h = get_or-map-range_with_len f 0 n m m false h (omega arith)

-- two rules that agree in each mode have one row
pub row_same : (n : ℕ) (f g : ℕ → Bool) → ((m : ℕ) → m < n → f m ≡ g m) → row n f ≡ row n g
row_same n f g e = fill_by_all g (row n f) n false (length-map-range_with_len f 0 n) (λ m h. row_at n f m h ∙ e m h)

pub row-length : (n : ℕ) (f : ℕ → Bool) → length (row n f) ≡ n
row-length n f = length-map-range_with_len f 0 n
