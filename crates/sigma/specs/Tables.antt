-- The signature that a table stands for. Assumes nothing.
use Rattle.std.specs.Prelude.{◌≡◌, ℕ, Bool, if◌then◌else◌, ◌&&◌, [], Some, None, Option, ◌==◌, slice_index, slice_index_or}
use Rattle.sets.specs.Word.{member}
use Rattle.sigma.specs.declared.Table.{Table}
use Rattle.sigma.specs.Signature.{Signature, rising, raised}

abbrev pub place_in : Table → ℕ → ℕ → Option ℕ
place_in t i j = if member (slice_index t.across i) j then Some (slice_index (slice_index_or t.orders i []) j) else None

abbrev pub signature_of : Table → Signature
signature_of t = record { equations = rising (member t.equations) 64; variables = rising (member t.variables) 64; place = place_in t }

-- whether equation e and variable v are both active
abbrev pub both_active : Table → ℕ → ℕ → Bool
both_active t e v = member t.equations e && member t.variables v

-- the place i, j with one more occurrence, of equation e and variable v with order k
abbrev pub counted : Table → ℕ → ℕ → ℕ → ℕ → ℕ → Option ℕ
counted t e v k i j = if both_active t e v && (e == i && v == j) then raised (place_in t i j) k else place_in t i j

-- t has the active equations and variables given, as words, and at each place what `place` says
pub record IsTableOf (equations variables : ℕ) (place : ℕ → ℕ → Option ℕ) (t : Table) : Type 0 where
  pub rows : t.equations ≡ equations
  pub columns : t.variables ≡ variables
  pub places : (i j : ℕ) → place_in t i j ≡ place i j
