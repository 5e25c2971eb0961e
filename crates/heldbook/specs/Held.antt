-- What a held book means, by the book below. Assumes nothing.
use Rattle.std.specs.Prelude.{ℕ, ◌<◌, Bool, true, false, if◌then◌else◌, List, [], ◌∷◌, ◌++◌, map, replicate, nat_lt, slice_index_or, slice_set, Option, Some, None}
use Rattle.std.specs.Option.{ForSome}
use Rattle.guards.specs.Meaning.{Meaning, Hold, free, off, on, seen, row, modes}

abbrev pub hold_of : Bool → Hold
hold_of true = on
hold_of false = off

-- switch s held alone
abbrev pub alone : ℕ → Hold → List Hold
alone s h = replicate s free ++ (h ∷ [])

-- a switch already held below stays so
abbrev pub over : Hold → Hold → Hold
over free h = h
over off h = off
over on h = on

-- a guard's answers in the modes below n, each taken in the mode with switch s put so
abbrev pub held_row : ℕ → Hold → ℕ → List Bool → List Bool
held_row s h n answers = row n (λ m. slice_index_or answers (seen (alone s h) m) false)

abbrev pub holding : ℕ → Hold → Meaning → Meaning
holding s h b = record {
  switches = b.switches;
  holds = slice_set b.holds s (over (slice_index_or b.holds s free) h);
  guards = map (held_row s h (modes b)) b.guards;
}

-- b with switch s held on or off; b as it is where it has no such switch
abbrev pub held : ℕ → Bool → Meaning → Meaning
held s at b = if nat_lt s b.switches then holding s (hold_of at) b else b

-- b with a switch held as told, or as it is
abbrev pub under : Option (ℕ × Bool) → Meaning → Meaning
under None b = b
under (Some h) b = held h.0 h.1 b

-- what a hold and the book below mean, where `mean` gives the meaning of the book below
abbrev pub of_held : {B : Type 0} → (B → Meaning) → Option (ℕ × Bool) × B → Meaning
of_held mean x = under x.0 (mean x.1)

-- the switch that is held is one of b's
abbrev pub Stands : Option (ℕ × Bool) → Meaning → Type 0
Stands hold b = ForSome hold (λ h. h.0 < b.switches)

-- the mode m with switch s put so, where b has that switch
abbrev pub put_mode : ℕ → Bool → Meaning → ℕ → ℕ
put_mode s at b m = if nat_lt s b.switches then seen (alone s (hold_of at)) m else m

-- for a private function: the mode in which the book below is asked
abbrev pub mode_below : Option (ℕ × Bool) → Meaning → ℕ → ℕ
mode_below None b m = m
mode_below (Some h) b m = put_mode h.0 h.1 b m
