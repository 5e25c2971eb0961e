-- The rule of the switch words, by one test over every switch and mode that antt computes. Assumes nothing.
use Rattle.std.proofs.Common.{◌≡◌, ℕ, Bool, false, List, [], map, get_or, sym, refl, ap, ◌∙◌, arith}
use Rattle.std.specs.List.{range_with_len}
use Rattle.std.proofs.lemmas.List.FromFn.{get_or-map-range_with_len}
use Rattle.guards.specs.Meaning.{on_in, row}
use Rattle.guards.proofs.Rows.{row_at}
use Rattle.wordbook.specs.Words.{switch_words, SwitchWordsRule}

-- for each switch a row of what f says in each mode
abbrev table : (ℕ → ℕ → Bool) → List (List Bool)
table f = map (λ s. row 64 (f s)) (range_with_len 0 6)

abbrev by_word : ℕ → ℕ → Bool
by_word s m = on_in m (get_or switch_words s 0)

same_table : table by_word ≡ table on_in
same_table = refl

pub switch_rule : SwitchWordsRule
switch_rule s h m l =
    sym (at by_word) ∙ ap (λ t. get_or (get_or t s []) m false) same_table ∙ at on_in
  where
    at : (f : ℕ → ℕ → Bool) → get_or (get_or (table f) s []) m false ≡ f s m
    at f = ap (λ r. get_or r m false) (get_or-map-range_with_len (λ i. row 64 (f i)) 0 6 s s [] h (omega arith)) ∙ row_at 64 (f s) m l
