-- The ledger of a sheet. Assumes nothing.
use Rattle.std.specs.Prelude.{ℕ, ◌≤◌, List, length}
use Rattle.guards.specs.Meaning.{Meaning, Sound}
use Rattle.reading.specs.declared.occurrence.Occurrence.{Occurrence}

-- the book's meaning, the guard of each equation and of each variable, the standing occurrences in the order of their placing, and the assumed guard
pub record Ledger : Type 0 where
  pub book : Meaning
  pub equations : List ℕ
  pub variables : List ℕ
  pub occurrences : List Occurrence
  pub assumed : ℕ

-- what stands of every sheet over a kind of book that takes at most `most` switches
pub record Bounded (most : ℕ) (l : Ledger) : Type 0 where
  pub equations : length l.equations ≤ 64
  pub variables : length l.variables ≤ 64
  pub occurrences : length l.occurrences ≤ 512
  pub sound : Sound most l.book
