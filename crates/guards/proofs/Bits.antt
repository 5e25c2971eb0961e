-- Modes under holds. Assumes nothing.
use Rattle.std.proofs.Common.{◌≡◌, ℕ, zero, suc, ◌+◌, ◌*◌, ◌/◌, ◌%◌, ◌^◌, ◌<◌, ◌≤◌, eqb, List, [], ◌∷◌, length, get_or, replicate, sym, refl, ap, ◌∙◌, arith}
use native.Mathlib.Nat.{pow-succ'}
use Rattle.sets.proofs.Bits.{bit-suc, bit-zero}
use Rattle.guards.specs.Meaning.{Hold, free, off, on, on_in, lowest, seen, put, SeenBySwitch}

pub low_lt : (h : Hold) (bit : ℕ) → bit < 2 → lowest h bit < 2
low_lt free bit l = l
low_lt off bit l = omega arith
low_lt on bit l = omega arith

low_put : (h : Hold) (bit : ℕ) → eqb (lowest h bit) 1 ≡ put h (eqb bit 1)
low_put free bit = refl
low_put off bit = refl
low_put on bit = refl

pub seen_by_switch : SeenBySwitch
seen_by_switch [] m s = refl
seen_by_switch (h ∷ hs) m zero =
    let l = low_lt h (m % 2) (omega arith) in
    let e : (seen hs (m / 2) * 2 + lowest h (m % 2)) % 2 ≡ lowest h (m % 2) = omega arith in
    bit-zero (seen (h ∷ hs) m) ∙ ap (λ n. eqb n 1) e ∙ low_put h (m % 2) ∙ ap (put h) (sym (bit-zero m))
seen_by_switch (h ∷ hs) m (suc s) =
    let l = low_lt h (m % 2) (omega arith) in
    let e : (seen hs (m / 2) * 2 + lowest h (m % 2)) / 2 ≡ seen hs (m / 2) = omega arith in
    bit-suc s (seen (h ∷ hs) m) ∙ ap (on_in s) e ∙ seen_by_switch hs (m / 2) s ∙ ap (put (get_or hs s free)) (sym (bit-suc s m))

-- free switches leave a mode as it is
pub seen-free : (k m : ℕ) → seen (replicate k free) m ≡ m
seen-free zero m = refl
seen-free (suc k) m = ap (λ n. n * 2 + m % 2) (seen-free k (m / 2)) ∙ omega arith

-- the seen mode is a mode of the same switches, and of no fewer
pub seen-lt : (hs : List Hold) (k m : ℕ) → length hs ≤ k → m < 2 ^ k → seen hs m < 2 ^ k
seen-lt [] k m h l = l
seen-lt (x ∷ hs) zero m h l = absurd (omega arith)
seen-lt (x ∷ hs) (suc k) m h l =
    let e : 2 ^ suc k ≡ 2 * 2 ^ k = pow-succ' 2 k in
    let b = low_lt x (m % 2) (omega arith) in
    let r = seen-lt hs k (m / 2) (omega arith) (omega arith) in
    omega arith

pub seen-ge : (hs : List Hold) (k m : ℕ) → length hs ≤ k → 2 ^ k ≤ m → 2 ^ k ≤ seen hs m
seen-ge [] k m h l = l
seen-ge (x ∷ hs) zero m h l = absurd (omega arith)
seen-ge (x ∷ hs) (suc k) m h l =
    let e : 2 ^ suc k ≡ 2 * 2 ^ k = pow-succ' 2 k in
    let r = seen-ge hs k (m / 2) (omega arith) (omega arith) in
    omega arith
