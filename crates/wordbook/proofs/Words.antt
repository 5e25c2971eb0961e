-- A new book of words, and one word more. Assumes nothing.
use Rattle.std.proofs.Common.{◌≡◌, ℕ, ◌-◌, ◌^◌, ◌<◌, ◌≤◌, Bool, true, List, [], ◌∷◌, ◌++◌, map, length, replicate, ap, ◌∙◌}
use Rattle.std.proofs.lemmas.List.{length-map, map-append}
use Rattle.guards.specs.Meaning.{Meaning, free, on_in, with_guard, fresh}
use Rattle.guards.proofs.Rows.{row_same}
use Rattle.wordbook.specs.WordBook.{of_words}
use Rattle.wordbook.specs.declared.WordBook.{WordBook}
use Rattle.wordbook.specs.Words.{words_mean, word_row}
use Rattle.wordbook.specs.WordsLemmas.{all_ones}

abbrev of_guards : ℕ → List (List Bool) → Meaning
of_guards k gs = record { switches = k; holds = replicate k free; guards = gs }

-- a book whose one word is all ones
pub fresh_is : (k : ℕ) → k ≤ 6 → words_mean k ((2 ^ 64 - 1) ∷ []) ≡ fresh k
fresh_is k h = ap (λ r. of_guards k (r ∷ [])) (row_same (2 ^ k) (λ m. on_in m (2 ^ 64 - 1)) (λ _. true) (λ m l. all_ones k m h l))

pub count : (x : WordBook) → length (of_words x).guards ≡ length x.words.items
count x = length-map x.words.items (word_row (2 ^ x.switches))

-- one word more
pub pushed : (k w : ℕ) (ws : List ℕ) (f : ℕ → Bool) → ((m : ℕ) → m < 2 ^ k → on_in m w ≡ f m) → words_mean k (ws ++ w ∷ []) ≡ with_guard (words_mean k ws) f
pushed k w ws f same =
    ap (of_guards k)
    (map-append (word_row (2 ^ k)) ws (w ∷ []) ∙ ap (λ r. map (word_row (2 ^ k)) ws ++ (r ∷ [])) (row_same (2 ^ k) (λ m. on_in m w) f same))
