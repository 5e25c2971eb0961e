-- What kept entries mean as guards. Assumes nothing.
use Rattle.std.specs.Prelude.{ℕ, Bool, false, not, ◌&&◌, ◌||◌, List, [], ◌∷◌, slice_index_or}
use Rattle.guards.specs.declared.entry.Entry.{Entry}
use Rattle.guards.specs.declared.entry.Entry.TheVariants.{Switch, Not, Both, Either}
use Rattle.guards.specs.Meaning.{Meaning, on_in, with_guard}
use Rattle.guards.specs.Calls.{entry_says}

-- a book with the guards of the entries es added, one after the other
abbrev pub with_all : Meaning → List Entry → Meaning
with_all b [] = b
with_all b (e ∷ es) = with_all (with_guard b (entry_says b e)) es

-- for a private function: what an entry says in the mode m where all switches are free, by the answers of the guards in that mode
abbrev pub says_by : List Bool → Entry → ℕ → Bool
says_by answers (Switch s) m = on_in s m
says_by answers (Not g) m = not (slice_index_or answers g false)
says_by answers (Both g h) m = slice_index_or answers g false && slice_index_or answers h false
says_by answers (Either g h) m = slice_index_or answers g false || slice_index_or answers h false
