-- The table of letters: what a record says after its next number. Assumes nothing.
use Rattle.std.specs.Prelude.{◌≡◌, ℕ, List, [], ◌∷◌, length, drop, Some, Ok}
use Rattle.guards.specs.declared.entry.Entry.TheVariants.{Switch, Not, Both, Either}
use Rattle.sheet.specs.declared.call.Change.{Change}
use Rattle.sheet.specs.declared.call.Change.TheVariants.{Enter, Equation, Variable, Place, Strike, Assume}
use Rattle.sheetfile.specs.Format.{call_of}
use Rattle.sheetfile.specs.Judging.{opening}

-- S, N, B, E, Q, V, O, A, where operands that are not used are zero; no bytes say a strike
abbrev pub written : Change → List ℕ
written (Enter (Switch a)) = 83 ∷ a ∷ 0 ∷ 0 ∷ 0 ∷ 0 ∷ []
written (Enter (Not a)) = 78 ∷ a ∷ 0 ∷ 0 ∷ 0 ∷ 0 ∷ []
written (Enter (Both a b)) = 66 ∷ a ∷ b ∷ 0 ∷ 0 ∷ 0 ∷ []
written (Enter (Either a b)) = 69 ∷ a ∷ b ∷ 0 ∷ 0 ∷ 0 ∷ []
written (Equation a b) = 81 ∷ a ∷ b ∷ 0 ∷ 0 ∷ 0 ∷ []
written (Variable a b) = 86 ∷ a ∷ b ∷ 0 ∷ 0 ∷ 0 ∷ []
written (Place a b c d) = 79 ∷ a ∷ b ∷ c ∷ d ∷ 0 ∷ []
written (Assume a) = 65 ∷ a ∷ 0 ∷ 0 ∷ 0 ∷ 0 ∷ []
written (Strike a b c) = []

-- eight bytes ask for a call exactly when they say it
pub record Table : Type 0 where
  pub reads : (p : List ℕ) (c : Change) → call_of p ≡ Some c → (length p ≡ 8) × (drop 2 p ≡ written c)
  pub says : (p : List ℕ) (c : Change) → length p ≡ 8 → drop 2 p ≡ written c → call_of p ≡ Some c

-- the hoist
abbrev pub hoist : List ℕ
hoist =
    0 ∷ 1 ∷ 1 ∷ 3 ∷ 2 ∷ 0 ∷ 0 ∷ 0 ∷
    0 ∷ 2 ∷ 83 ∷ 0 ∷ 0 ∷ 0 ∷ 0 ∷ 0 ∷
    0 ∷ 3 ∷ 78 ∷ 1 ∷ 0 ∷ 0 ∷ 0 ∷ 0 ∷
    0 ∷ 4 ∷ 81 ∷ 1 ∷ 1 ∷ 0 ∷ 0 ∷ 0 ∷
    0 ∷ 5 ∷ 81 ∷ 2 ∷ 2 ∷ 0 ∷ 0 ∷ 0 ∷
    0 ∷ 6 ∷ 79 ∷ 0 ∷ 0 ∷ 2 ∷ 0 ∷ 0 ∷
    0 ∷ 7 ∷ 79 ∷ 0 ∷ 1 ∷ 0 ∷ 0 ∷ 0 ∷
    0 ∷ 8 ∷ 79 ∷ 1 ∷ 0 ∷ 0 ∷ 0 ∷ 0 ∷
    0 ∷ 0 ∷ 79 ∷ 2 ∷ 1 ∷ 0 ∷ 0 ∷ 0 ∷ []

abbrev pub HoistOpens : Type 0
HoistOpens = opening hoist ≡ Ok (1 ∷ 2 ∷ 3 ∷ 4 ∷ 5 ∷ 6 ∷ 7 ∷ 8 ∷ [])
