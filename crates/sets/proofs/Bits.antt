-- Bits of a word. Assumes nothing.
use Rattle.std.proofs.Common.{◌≡◌, ℕ, zero, suc, ◌-◌, ◌*◌, ◌/◌, ◌%◌, ◌^◌, ◌<◌, min, max, false, not, ◌&&◌, ◌||◌, eqb, sym, refl, ap, ◌∙◌, arith}
use native.Mathlib.Nat.{pow-succ', div-div-eq-div-mul}
use lib.Bits.{bit_and, bit_or, and_step, or_step, and_shr, or_shr}
use Rattle.std.proofs.lemmas.Bool.Decides.{nat_tests}
use Rattle.sets.specs.Word.{bit}

abbrev digit : ℕ → ℕ → ℕ
digit k w = w / 2 ^ k % 2

digit-bit_and : (k a b : ℕ) → digit k (bit_and a b) ≡ min (digit k a) (digit k b)
digit-bit_and k a b = rw and_shr (omega (arith, and_step (a / 2 ^ k) (b / 2 ^ k)))

pub bit-bit_and : (k a b : ℕ) → bit k (bit_and a b) ≡ (bit k a && bit k b)
bit-bit_and k a b = rw digit-bit_and (grind (arith, nat_tests))

digit-bit_or : (k a b : ℕ) → digit k (bit_or a b) ≡ max (digit k a) (digit k b)
digit-bit_or k a b = rw or_shr (omega (arith, or_step (a / 2 ^ k) (b / 2 ^ k)))

pub bit-bit_or : (k a b : ℕ) → bit k (bit_or a b) ≡ (bit k a || bit k b)
bit-bit_or k a b = rw digit-bit_or (grind (arith, nat_tests))

pub bit-suc : (s m : ℕ) → bit (suc s) m ≡ bit s (m / 2)
bit-suc s m =
    let e : 2 ^ suc s ≡ 2 * 2 ^ s = pow-succ' 2 s in
    ap (λ n. eqb (n % 2) 1) (ap (λ k. m / k) e ∙ sym (div-div-eq-div-mul m 2 (2 ^ s)))

pub bit-zero : (m : ℕ) → bit 0 m ≡ eqb (m % 2) 1
bit-zero m = ap (λ n. eqb (n % 2) 1) (omega arith)

opposite : (p : ℕ) → p < 2 → eqb (1 - p) 1 ≡ not (eqb p 1)
opposite p h = grind (arith, nat_tests)

-- the opposite of a word of k bits
pub bit_not : (k m a : ℕ) → m < k → a < 2 ^ k → bit m ((2 ^ k - 1) - a) ≡ not (bit m a)
bit_not zero m a h l = absurd (omega arith)
bit_not (suc k) zero a h l =
    let e : 2 ^ suc k ≡ 2 * 2 ^ k = pow-succ' 2 k in
    let low : ((2 ^ suc k - 1) - a) % 2 ≡ 1 - a % 2 = omega arith in
    bit-zero ((2 ^ suc k - 1) - a) ∙ ap (λ n. eqb n 1) low ∙ opposite (a % 2) (omega arith) ∙ ap not (sym (bit-zero a))
bit_not (suc k) (suc m) a h l =
    let e : 2 ^ suc k ≡ 2 * 2 ^ k = pow-succ' 2 k in
    let half : ((2 ^ suc k - 1) - a) / 2 ≡ (2 ^ k - 1) - a / 2 = omega arith in
    bit-suc m ((2 ^ suc k - 1) - a) ∙ ap (bit m) half ∙ bit_not k m (a / 2) (omega arith) (omega arith) ∙ ap not (sym (bit-suc m a))

-- zero has no bit
pub bit_none : (m : ℕ) → bit m 0 ≡ false
bit_none zero = refl
bit_none (suc m) = bit-suc m 0 ∙ bit_none m
