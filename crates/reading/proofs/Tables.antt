-- The signature of a table of what is active. Assumes nothing.
use Rattle.std.proofs.Common.{◌≡◌, ℕ, ◌≤◌, ◌&&◌, ltb, List, length, take, refl, arith}
use mathlib.Core.Path.{fun_ext}
use Rattle.std.proofs.lemmas.Bool.{le-ltb}
use Rattle.std.proofs.lemmas.Bool.Decides.{nat_tests}
use Rattle.std.proofs.lemmas.List.{get_or-take, length-take}
use Rattle.guards.specs.Meaning.{Meaning}
use Rattle.sets.specs.Word.{member}
use Rattle.sigma.specs.Signature.{rising}
use Rattle.sigma.specs.Tables.{IsTableOf, place_in, signature_of}
use Rattle.sigma.specs.declared.Table.{Table}
use Rattle.sigma.proofs.Risings.{rising_past}
use Rattle.reading.specs.declared.occurrence.Occurrence.{Occurrence}
use Rattle.reading.specs.Signatures.{active, counts, largest, signature_by}

-- what is active among the first n
pub active-take : (b : Meaning) (m n : ℕ) (xs : List ℕ) (k : ℕ) → active b m (take n xs) k ≡ (ltb k n && active b m xs k)
active-take b m n xs k = grind (arith, nat_tests, get_or-take, length-take)

-- of at most 64, those listed are those active below 64
listed : (b : Meaning) (m : ℕ) (xs : List ℕ) → length xs ≤ 64 → rising (active b m xs) 64 ≡ rising (active b m xs) (length xs)
listed b m xs l = rising_past (active b m xs) (length xs) 64 l (λ k h. rw (le-ltb k (length xs) h) refl)

pub signature_of-table : (b : Meaning) (es vs : List ℕ) (os : List Occurrence) (m x y : ℕ) (t : Table) → length es ≤ 64 → length vs ≤ 64 →
    ((k : ℕ) → member x k ≡ active b m es k) → ((k : ℕ) → member y k ≡ active b m vs k) → IsTableOf x y (largest (counts b m (member x) (member y)) os) t →
    signature_of t ≡ signature_by b es vs os m
signature_of-table b es vs os m x y t le lv e v f =
    let xe : member x ≡ active b m es = fun_ext e in
    let yv : member y ≡ active b m vs = fun_ext v in
    let p : place_in t ≡ largest (counts b m (member x) (member y)) os = fun_ext (λ i. fun_ext (f.places i)) in
    rw (p, f.rows, f.columns, xe, yv, listed b m es le, listed b m vs lv) refl
