-- Lists of the numbers that pass a test. Assumes nothing.
use Rattle.std.proofs.Common.{◌≡◌, ℕ, zero, suc, ◌+◌, ◌-◌, ◌<◌, ◌≤◌, Bool, false, refl, ap, ◌∙◌, add-zero, add-suc, arith}
use Rattle.std.proofs.lemmas.List.{append-nil}
use Rattle.sigma.specs.Signature.{rising}

pub rising_same : (p q : ℕ → Bool) (n : ℕ) → ((k : ℕ) → k < n → p k ≡ q k) → rising p n ≡ rising q n
rising_same p q zero e = refl
rising_same p q (suc n) e = rw (rising_same p q n (λ k h. e k (omega arith)), e n (omega arith)) refl

-- nothing passes from n on
rising_more : (p : ℕ → Bool) (n d : ℕ) → ((k : ℕ) → n ≤ k → p k ≡ false) → rising p (n + d) ≡ rising p n
rising_more p n zero f = ap (rising p) (add-zero n)
rising_more p n (suc d) f = rw (add-suc n d, rising_more p n d f, f (n + d) (omega arith)) (append-nil (rising p n))

pub rising_past : (p : ℕ → Bool) (n m : ℕ) → n ≤ m → ((k : ℕ) → n ≤ k → p k ≡ false) → rising p m ≡ rising p n
rising_past p n m l f = let e : m ≡ n + (m - n) = omega arith in ap (rising p) e ∙ rising_more p n (m - n) f
