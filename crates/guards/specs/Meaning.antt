-- What a guard book means. Assumes nothing.
use Rattle.std.specs.Prelude.{◌≡◌, ℕ, ◌+◌, ◌*◌, ◌/◌, ◌%◌, ◌^◌, ◌<◌, ◌≤◌, Bool, true, false, if◌then◌else◌, List, [], ◌∷◌, ◌++◌, map, length, replicate, nat_lt, slice_index_or}
use Rattle.std.specs.List.{range_with_len}
use Rattle.sets.specs.Word.{bit}

pub data Hold : Type 0 where
  free : Hold
  off : Hold
  on : Hold

-- the number K of switches; one hold for each switch; for each guard the row of its answers in the modes 0 to 2^K - 1
pub record Meaning : Type 0 where
  pub switches : ℕ
  pub holds : List Hold
  pub guards : List (List Bool)

-- switch s is on in the mode m: bit s of m, counted from the lowest, is 1
abbrev pub on_in : ℕ → ℕ → Bool
on_in s m = bit s m

-- the lowest bit of a mode, under the hold of switch 0
abbrev pub lowest : Hold → ℕ → ℕ
lowest free bit = bit
lowest off bit = 0
lowest on bit = 1

-- the seen mode of m: each held switch is put where it is held
abbrev pub seen : List Hold → ℕ → ℕ
seen [] m = m
seen (h ∷ hs) m = seen hs (m / 2) * 2 + lowest h (m % 2)

abbrev pub modes : Meaning → ℕ
modes b = 2 ^ b.switches

-- what guard g says in the mode m
abbrev pub says : Meaning → ℕ → ℕ → Bool
says b g m = slice_index_or (slice_index_or b.guards g []) m false

-- the answers of f in the modes below n
abbrev pub row : ℕ → (ℕ → Bool) → List Bool
row n f = map f (range_with_len 0 n)

-- one guard more, which says f
abbrev pub with_guard : Meaning → (ℕ → Bool) → Meaning
with_guard b f = record { switches = b.switches; holds = b.holds; guards = b.guards ++ (row (modes b) f ∷ []) }

-- k free switches, and guard 0 alone
abbrev pub fresh : ℕ → Meaning
fresh k = record { switches = k; holds = replicate k free; guards = row (2 ^ k) (λ _. true) ∷ [] }

-- how many switches a making with the number k gives, of a kind that takes at most `most`
abbrev pub switches_made : ℕ → ℕ → ℕ
switches_made most k = if nat_lt most k then 0 else k

-- a new book of a kind that takes at most `most` switches
abbrev pub new_book : ℕ → ℕ → Meaning
new_book most k = fresh (switches_made most k)

-- what every kind owes
pub record Sound (most : ℕ) (b : Meaning) : Type 0 where
  pub few : b.switches ≤ most
  pub one_each : length b.holds ≡ b.switches
  pub some : 1 ≤ length b.guards
  pub room : length b.guards ≤ 64
  pub rows : (g : ℕ) → g < length b.guards → length (slice_index_or b.guards g []) ≡ modes b
  pub always : (m : ℕ) → m < modes b → says b 0 m ≡ true

-- a bit under the hold of its switch
abbrev pub put : Hold → Bool → Bool
put free bit = bit
put off bit = false
put on bit = true

-- the seen mode, switch by switch
abbrev pub SeenBySwitch : Type 0
SeenBySwitch = (hs : List Hold) (m s : ℕ) → on_in s (seen hs m) ≡ put (slice_index_or hs s free) (on_in s m)
