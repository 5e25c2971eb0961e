-- A mode with one switch put. Assumes nothing.
use Rattle.std.specs.Prelude.{◌≡◌, ℕ, zero, suc, ◌+◌, ◌-◌, ◌*◌, ◌/◌, ◌%◌, ◌^◌, ◌<◌, List, [], ◌∷◌, length, bit_and, bit_or, slice_index_or, slice_set, refl}
use Rattle.std.proofs.Common.{sym, ap, ◌∙◌, mod-eq_of_lt, arith}
use Rattle.std.proofs.Math.Nat.{pow-succ'}
use Rattle.std.specs.Int.Bits.{and_step, or_step, or_zero_r}
use Rattle.std.proofs.lemmas.Nat.{pow_below, pow_pos, and_mask}
use Rattle.guards.specs.Meaning.{Hold, free, off, on, lowest, seen}
use Rattle.guards.proofs.Bits.{low_lt}
use Rattle.heldbook.specs.Held.{alone, over}

pub put_on : (s m : ℕ) → bit_or m (2 ^ s) ≡ seen (alone s on) m
put_on zero m = let z = or_zero_r (m / 2) in omega (arith, or_step m 1)
put_on (suc s) m =
    let e : 2 ^ suc s ≡ 2 * 2 ^ s = pow-succ' 2 s in
    let d : 2 ^ suc s / 2 ≡ 2 ^ s = omega arith in
    let q : bit_or (m / 2) (2 ^ suc s / 2) ≡ seen (alone s on) (m / 2) = ap (bit_or (m / 2)) d ∙ put_on s (m / 2) in
    omega (arith, or_step m (2 ^ suc s))

pub put_off : (k s m : ℕ) → s < k → m < 2 ^ k → bit_and m ((2 ^ k - 1) - 2 ^ s) ≡ seen (alone s off) m
put_off zero s m h l = absurd (omega arith)
put_off (suc k) zero m h l =
    let e : 2 ^ suc k ≡ 2 * 2 ^ k = pow-succ' 2 k in
    let p = pow_pos k in
    let d : ((2 ^ suc k - 1) - 1) / 2 ≡ 2 ^ k - 1 = omega arith in
    let q : bit_and (m / 2) (((2 ^ suc k - 1) - 1) / 2) ≡ m / 2 = ap (bit_and (m / 2)) d ∙ and_mask (m / 2) k ∙ mod-eq_of_lt (omega arith) in
    omega (arith, and_step m ((2 ^ suc k - 1) - 1))
put_off (suc k) (suc s) m h l =
    let e : 2 ^ suc k ≡ 2 * 2 ^ k = pow-succ' 2 k in
    let f : 2 ^ suc s ≡ 2 * 2 ^ s = pow-succ' 2 s in
    let b = pow_below s k (omega arith) in
    let d : ((2 ^ suc k - 1) - 2 ^ suc s) / 2 ≡ (2 ^ k - 1) - 2 ^ s = omega arith in
    let q : bit_and (m / 2) (((2 ^ suc k - 1) - 2 ^ suc s) / 2) ≡ seen (alone s off) (m / 2) = ap (bit_and (m / 2)) d ∙ put_off k s (m / 2) (omega arith) (omega arith) in
    omega (arith, and_step m ((2 ^ suc k - 1) - 2 ^ suc s))

over_low : (x h : Hold) (bit : ℕ) → lowest (over x h) bit ≡ lowest x (lowest h bit)
over_low free h bit = refl
over_low off h bit = refl
over_low on h bit = refl

-- the seen mode of the held book is the one below of the put mode
pub seen-put : (xs : List Hold) (s : ℕ) (h : Hold) (m : ℕ) → s < length xs → seen (slice_set xs s (over (slice_index_or xs s free) h)) m ≡ seen xs (seen (alone s h) m)
seen-put [] s h m l = absurd (omega arith)
seen-put (x ∷ xs) zero h m l =
    let b = low_lt h (m % 2) (omega arith) in
    let d : (m / 2 * 2 + lowest h (m % 2)) / 2 ≡ m / 2 = omega arith in
    let r : (m / 2 * 2 + lowest h (m % 2)) % 2 ≡ lowest h (m % 2) = omega arith in
    ap (λ n. seen xs (m / 2) * 2 + n) (over_low x h (m % 2) ∙ ap (lowest x) (sym r)) ∙
    ap (λ n. seen xs n * 2 + lowest x ((m / 2 * 2 + lowest h (m % 2)) % 2)) (sym d)
seen-put (x ∷ xs) (suc s) h m l =
    let d : (seen (alone s h) (m / 2) * 2 + m % 2) / 2 ≡ seen (alone s h) (m / 2) = omega arith in
    let r : (seen (alone s h) (m / 2) * 2 + m % 2) % 2 ≡ m % 2 = omega arith in
    ap (λ n. n * 2 + lowest x (m % 2)) (seen-put xs s h (m / 2) (omega arith)) ∙
    ap (λ n. seen xs (seen (alone s h) (m / 2)) * 2 + lowest x n) (sym r) ∙
    ap (λ n. seen xs n * 2 + lowest x ((seen (alone s h) (m / 2) * 2 + m % 2) % 2)) (sym d)
