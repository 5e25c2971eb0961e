-- The signature of one mode. Assumes nothing.
use Rattle.std.specs.Prelude.{ℕ, zero, suc, max, Bool, if◌then◌else◌, List, [], ◌∷◌, ◌++◌, Some, None, Option}

-- the active equations and the active variables, rising, and the order at each place, none where the place is empty
pub record Signature : Type 0 where
  pub equations : List ℕ
  pub variables : List ℕ
  pub place : ℕ → ℕ → Option ℕ

-- the numbers below a bound that pass a test, rising
abbrev pub rising : (ℕ → Bool) → ℕ → List ℕ
rising p zero = []
rising p (suc n) = rising p n ++ (if p n then n ∷ [] else [])

-- a place with one more order: the larger one stands
abbrev pub raised : Option ℕ → ℕ → Option ℕ
raised None k = Some k
raised (Some n) k = Some (max n k)
