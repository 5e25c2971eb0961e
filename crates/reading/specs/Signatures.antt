-- The signature of a mode by a book's meaning and lists of guards and occurrences. Assumes nothing.
use Rattle.std.specs.Prelude.{ℕ, Bool, if◌then◌else◌, ◌&&◌, List, length, None, fold, Option, ◌==◌, nat_lt, slice_index}
use Rattle.guards.specs.Meaning.{Meaning, says}
use Rattle.sets.specs.Word.{member}
use Rattle.sigma.specs.Signature.{Signature, rising, raised}
use Rattle.sigma.specs.Tables.{place_in}
use Rattle.sigma.specs.declared.Table.{Table}
use Rattle.reading.specs.declared.occurrence.Occurrence.{Occurrence}

-- in the mode m: equation or variable k, of those with these guards, is active when its guard says yes
abbrev pub active : Meaning → ℕ → List ℕ → ℕ → Bool
active b m guards k = nat_lt k (length guards) && says b (slice_index guards k) m

-- an occurrence counts when its equation is among the active ones e, its variable among the active ones v, and its guard says yes
abbrev pub counts : Meaning → ℕ → (ℕ → Bool) → (ℕ → Bool) → Occurrence → Bool
counts b m e v o = (e o.equation && v o.variable) && says b o.guard m

abbrev pub stands_at : ℕ → ℕ → Occurrence → Bool
stands_at i j o = o.equation == i && o.variable == j

-- the place i, j with one occurrence more, of those that pass a test
abbrev pub joined : (Occurrence → Bool) → ℕ → ℕ → Option ℕ → Occurrence → Option ℕ
joined test i j a o = if test o && stands_at i j o then raised a o.order else a

-- the place i, j of the table t with one occurrence more, if that counts in the mode m
abbrev pub weighed : Meaning → ℕ → Table → Occurrence → ℕ → ℕ → Option ℕ
weighed b m t o i j = joined (counts b m (member t.equations) (member t.variables)) i j (place_in t i j) o

-- the largest order among the occurrences at the place i, j that pass a test, none where there is none
abbrev pub largest : (Occurrence → Bool) → List Occurrence → ℕ → ℕ → Option ℕ
largest test os i j = fold (joined test i j) None os

-- the guards of the equations and of the variables, the occurrences, the mode
abbrev pub signature_by : Meaning → List ℕ → List ℕ → List Occurrence → ℕ → Signature
signature_by b es vs os m = record {
  equations = rising (active b m es) (length es);
  variables = rising (active b m vs) (length vs);
  place = largest (counts b m (active b m es) (active b m vs)) os;
}
