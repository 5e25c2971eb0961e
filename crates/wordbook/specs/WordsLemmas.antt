-- Laws of a book of words. Assumes nothing.
use Rattle.std.specs.Prelude.{◌≡◌, ℕ, ◌-◌, ◌^◌, ◌<◌, ◌≤◌, true, false, not, List, [], ◌∷◌, length, get_or, slice_index, slice_index_or}
use Rattle.std.proofs.Common.{ap, ◌∙◌, arith}
use Rattle.std.proofs.Math.Nat.{pow-le-pow_right}
use Rattle.std.proofs.lemmas.List.{length-map, length-replicate, get_or-map}
use Rattle.guards.specs.Meaning.{Sound, free, says, on_in}
use Rattle.sets.proofs.Bits.{bit_not, bit_none}
use Rattle.guards.proofs.Rows.{row_at, row-length}
use Rattle.wordbook.specs.Words.{words_mean, word_row}

pub below_64 : (k m : ℕ) → k ≤ 6 → m < 2 ^ k → m < 64
below_64 k m h l = let p : 2 ^ k ≤ 2 ^ 6 = pow-le-pow_right {n = 2} (omega arith) h in omega arith

pub all_ones : (k m : ℕ) → k ≤ 6 → m < 2 ^ k → on_in m (2 ^ 64 - 1) ≡ true
all_ones k m h l = bit_not 64 m 0 (below_64 k m h l) (omega arith) ∙ ap not (bit_none m)

-- a standing guard has the row of its word
row_of : (k : ℕ) (ws : List ℕ) (g : ℕ) → g < length (words_mean k ws).guards → slice_index_or (words_mean k ws).guards g [] ≡ word_row (2 ^ k) (slice_index ws g)
row_of k ws g l = get_or-map (word_row (2 ^ k)) ws g 0 [] (rw (← length-map ws (word_row (2 ^ k))) l)

-- what a standing guard says
pub word_says : (k : ℕ) (ws : List ℕ) (g m : ℕ) → g < length (words_mean k ws).guards → m < 2 ^ k → says (words_mean k ws) g m ≡ on_in m (slice_index ws g)
word_says k ws g m l b = ap (λ r. get_or r m false) (row_of k ws g l) ∙ row_at (2 ^ k) (λ i. on_in i (slice_index ws g)) m b

-- a first word of ones is a word
some_guard : (k : ℕ) (ws : List ℕ) → slice_index ws 0 ≡ 2 ^ 64 - 1 → 0 < length (words_mean k ws).guards
some_guard k [] e = absurd (omega arith)
some_guard k (w ∷ ws) e = omega arith

pub words_sound : (k : ℕ) (ws : List ℕ) → k ≤ 6 → length ws ≤ 64 → slice_index ws 0 ≡ 2 ^ 64 - 1 → Sound 6 (words_mean k ws)
words_sound k ws few room ones =
    let some = some_guard k ws ones in
    record {
      few = few;
      one_each = length-replicate k free;
      some = some;
      room = rw length-map room;
      rows = λ g l. ap length (row_of k ws g l) ∙ row-length (2 ^ k) (λ m. on_in m (slice_index ws g));
      always = λ m l. word_says k ws 0 m some l ∙ ap (on_in m) ones ∙ all_ones k m few l;
    }
