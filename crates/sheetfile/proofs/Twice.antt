-- Of n + 1 numbers below n two are the same. Assumes nothing.
use Rattle.std.proofs.Common.{◌≡◌, ℕ, zero, suc, ◌<◌, ◌≤◌, cond, eqb, ◌⊎◌, sym, ap, ◌∙◌, inl, inr, ⊎_elim, arith}
use Rattle.std.proofs.lemmas.Bool.{cases_eq}
use Rattle.std.proofs.lemmas.Bool.Decides.{nat_tests}

pub record Twice (g : ℕ → ℕ) (n : ℕ) : Type 0 where
  pub early : ℕ
  pub late : ℕ
  pub apart : early < late
  pub within : late ≤ n
  pub same : g early ≡ g late

-- whether one of the first n is x
look : (g : ℕ → ℕ) (x n : ℕ) → ((k : ℕ) × (k < n) × (g k ≡ x)) ⊎ ((k : ℕ) → k < n → g k ≡ x → ⊥)
look g x zero = inr (λ k l. absurd (omega arith))
look g x (suc n) = ⊎_elim
    (λ e. inl (n, omega arith, e))
    (λ ne. ⊎_elim
    (λ o. inl (o.0, omega (arith, o.1), o.2))
    (λ never. inr (λ k l e. ⊎_elim (λ (q : k ≡ n). ne (sym (ap g q) ∙ e)) (λ q. never k (omega (arith, q)) e) (cases_eq k n)))
    (look g x n))
    (cases_eq (g n) x)

-- g, with what stands at suc n in the place of the value n
abbrev moved : (ℕ → ℕ) → ℕ → ℕ → ℕ
moved g n k = cond (eqb (g k) n) (g (suc n)) (g k)

lower : (g : ℕ → ℕ) (n k : ℕ) → g k < suc n → g (suc n) < suc n → (g k ≡ g (suc n) → ⊥) → moved g n k < n
lower g n k a b c = grind (arith, nat_tests)

back : (g : ℕ → ℕ) (n i j : ℕ) → (g i ≡ g (suc n) → ⊥) → (g j ≡ g (suc n) → ⊥) → moved g n i ≡ moved g n j → g i ≡ g j
back g n i j a b e = grind (arith, nat_tests)

pub twice : (n : ℕ) (g : ℕ → ℕ) → ((k : ℕ) → k ≤ n → g k < n) → Twice g n
twice zero g low = absurd (omega (arith, low 0 (omega arith)))
twice (suc n) g low = ⊎_elim
    (λ o. record { early = o.0; late = suc n; apart = o.1; within = omega arith; same = o.2 })
    (λ never.
    let t = twice n (moved g n) (λ k l. lower g n k (low k (omega arith)) (low (suc n) (omega arith)) (never k (omega arith))) in
    record {
      early = t.early;
      late = t.late;
      apart = t.apart;
      within = omega (arith, t.within);
      same = back g n t.early t.late (never t.early (omega (arith, t.apart, t.within))) (never t.late (omega (arith, t.within))) t.same;
    })
    (look g (g (suc n)) (suc n))
