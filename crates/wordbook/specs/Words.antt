-- What words mean as guards. Assumes nothing.
use Rattle.std.specs.Prelude.{◌≡◌, ℕ, ◌^◌, ◌<◌, Bool, List, [], ◌∷◌, map, replicate, slice_index}
use Rattle.guards.specs.Meaning.{Meaning, free, on_in, row}

-- the row of a word: bit m is the answer in mode m
abbrev pub word_row : ℕ → ℕ → List Bool
word_row n w = row n (λ m. on_in m w)

-- k free switches, and the words as guards
abbrev pub words_mean : ℕ → List ℕ → Meaning
words_mean k ws = record { switches = k; holds = replicate k free; guards = map (word_row (2 ^ k)) ws }

-- the words of the switches 0 to 5
abbrev pub switch_words : List ℕ
switch_words = 0xAAAA_AAAA_AAAA_AAAA ∷ 0xCCCC_CCCC_CCCC_CCCC ∷ 0xF0F0_F0F0_F0F0_F0F0 ∷ 0xFF00_FF00_FF00_FF00 ∷ 0xFFFF_0000_FFFF_0000 ∷ 0xFFFF_FFFF_0000_0000 ∷ []

-- bit m of the word of switch s is bit s of m
abbrev pub SwitchWordsRule : Type 0
SwitchWordsRule = (s : ℕ) → s < 6 → (m : ℕ) → m < 64 → on_in m (slice_index switch_words s) ≡ on_in s m
