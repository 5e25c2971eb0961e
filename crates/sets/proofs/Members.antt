-- Membership in a word. Assumes nothing.
use Rattle.std.proofs.Common.{◌≡◌, ℕ, zero, suc, ◌/◌, ◌%◌, ◌^◌, ◌<◌, ◌≤◌, Bool, true, false, ◌||◌, eqb, ◌≢◌, sym, refl, ap, ◌∙◌, ⊎_elim, pow-suc, arith, pow_mono}
use lib.Bits.{bit_or}
use Rattle.std.proofs.lemmas.Nat.{pow_pos, div_below}
use Rattle.std.proofs.lemmas.Bool.{cases_eq, cases_lt, eq-eqb, ne_eqb, both_ways}
use Rattle.sets.specs.Word.{bit, member}
use Rattle.sets.proofs.Bits.{bit-bit_or, bit-suc, bit-zero, bit_none}

-- a power of two has one bit
one_bit : (i k : ℕ) → bit k (2 ^ i) ≡ eqb i k
one_bit zero zero = refl
one_bit zero (suc k) = bit-suc k 1 ∙ bit_none k ∙ sym (ne_eqb 0 (suc k) (omega arith))
one_bit (suc i) zero = bit-zero (2 ^ suc i) ∙ ne_eqb (2 ^ suc i % 2) 1 (omega (arith, pow-suc 2 i)) ∙ sym (ne_eqb (suc i) 0 (omega arith))
one_bit (suc i) (suc k) =
    let half : 2 ^ suc i / 2 ≡ 2 ^ i = omega (arith, pow-suc 2 i) in
    bit-suc k (2 ^ suc i) ∙ ap (bit k) half ∙ one_bit i k ∙ one_up
  where
    one_up : eqb i k ≡ eqb (suc i) (suc k)
    one_up =
        ⊎_elim
        (λ (e : i ≡ k). eq-eqb i k e ∙ sym (eq-eqb (suc i) (suc k) (ap suc e)))
        (λ (e : i ≢ k). ne_eqb i k e ∙ sym (ne_eqb (suc i) (suc k) (λ z. e (omega arith))))
        (cases_eq i k)

pub member-zero : (k : ℕ) → member 0 k ≡ false
unfolding member
member-zero k = bit_none k

-- no member above the width
pub member_past : (n w k : ℕ) → w < 2 ^ n → n ≤ k → member w k ≡ false
unfolding member
member_past n w k h le =
    let up : 2 ^ n ≤ 2 ^ k = pow_mono le in
    let z : w / 2 ^ k < 1 = div_below w (2 ^ k) 1 (pow_pos k) (omega arith) in
    ne_eqb (w / 2 ^ k % 2) 1 (omega arith)

-- a member is below the width
pub member_below : (n w k : ℕ) → w < 2 ^ n → member w k ≡ true → k < n
member_below n w k h m =
    ⊎_elim (λ lt. lt) (λ le. absurd (both_ways (member w k) (member_past n w k h le) m)) (cases_lt k n)

-- one more member
pub member-bit_or : (w i k : ℕ) → member (bit_or w (2 ^ i)) k ≡ (eqb i k || member w k)
unfolding member
member-bit_or w i k = bit-bit_or k w (2 ^ i) ∙ ap (λ b. bit k w || b) (one_bit i k) ∙ swap (bit k w) (eqb i k)
  where
    swap : (a b : Bool) → (a || b) ≡ (b || a)
    swap true true = refl
    swap true false = refl
    swap false true = refl
    swap false false = refl
