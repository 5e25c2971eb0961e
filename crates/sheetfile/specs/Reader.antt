-- What a reader of a file stands for, and what it hands out. Assumes nothing.
use Rattle.std.specs.Prelude.{◌≡◌, ℕ, suc, List, [], ◌∷◌, Ok, Err, Option, MatchOption, Result}
use Rattle.std.specs.Borrow.{Bor}
use Rattle.faults.specs.declared.Fault.{Fault}
use Rattle.sheetfile.specs.Format.{count_of, part_of}
use Rattle.sheetfile.specs.Opening.{Chain, Judged}
use Rattle.sheetfile.specs.Judging.{walked, opening}

-- the bytes of the file, and the numbers of the records still to be handed out
pub record Reader : Type 0 where
  pub file : List ℕ
  pub rest : List ℕ

abbrev pub numbers_of : Result (List ℕ) Fault → List ℕ
numbers_of (Ok ns) = ns
numbers_of (Err e) = []

-- the numbers along the chain from number p to zero
abbrev pub rest_from : List ℕ → ℕ → List ℕ
rest_from f p = numbers_of (walked f (suc (count_of f)) p)

-- the file opens, and the reader has all the records of its chain to come
pub record Opens (f : List ℕ) (r : Reader) : Type 0 where
  pub same : r.file ≡ f
  pub answer : opening f ≡ Ok r.rest
  pub right : Judged f (Ok r.rest)

-- for a private function: the same of a reader that is made at number p
pub record Starts (f : List ℕ) (p : ℕ) : Type 0 where
  pub opens : Opens f (record { file = f; rest = rest_from f p })
  pub chain : Chain f p (rest_from f p)

-- what a step hands out, where these numbers are still to come, and those that are to come then
abbrev pub handed : List ℕ → List ℕ → ℕ → List ℕ → List ℕ → Type 0
handed f [] n p rest = (n ≡ 0) × (p ≡ []) × (rest ≡ [])
handed f (m ∷ ms) n p rest = (n ≡ m) × (p ≡ part_of f m) × (rest ≡ ms)

-- a step hands out the number n and the bytes p
abbrev pub Hands : Reader → ℕ → List ℕ → Reader → Type 0
Hands old n p new = handed old.file old.rest n p new.rest

-- an item is the next number with its eight bytes; there is none at the end
abbrev pub HandsOn : Reader → Option (ℕ × Bor (List ℕ)) → Reader → Type 0
HandsOn old r new = (new.file ≡ old.file) × MatchOption r ((old.rest ≡ []) × (new.rest ≡ [])) (λ x. (old.rest ≡ x.0 ∷ new.rest) × (x.1.now ≡ part_of old.file x.0))
