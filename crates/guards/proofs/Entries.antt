-- What every kind of book needs of the calls, by its two counts. Assumes nothing.
use Rattle.std.proofs.Common.{◌≡◌, ℕ, ◌+◌, ◌^◌, ◌<◌, ◌≤◌, Bool, true, false, ◌&&◌, ltb, [], ◌∷◌, length, IfOk, Ok, Err, Result, sym, refl, ap, ◌∙◌, arith}
use Rattle.std.proofs.lemmas.List.{length-append}
use Rattle.std.proofs.lemmas.Bool.{lt-ltb, le-ltb, ltb-true, and_parts}
use Rattle.faults.specs.declared.Fault.{Fault}
use Rattle.faults.specs.declared.Fault.TheVariants.{NoSuchGuard, GuardsFull, NoSuchMode}
use Rattle.faults.specs.Refusals.{Refusal, refusal, told}
use Rattle.guards.specs.declared.entry.Entry.{Entry}
use Rattle.guards.specs.Meaning.{Meaning, says, modes, row, with_guard}
use Rattle.guards.specs.Calls.{named, missing, provided, admitted, settle, answer, entry_says, found, asked, Entered}

-- an accepted entry: what it names stands, there is room, and it takes the next number
pub record Accepted (k n : ℕ) (e : Entry) (x : ℕ) : Type 0 where
  pub names : named k n e ≡ true
  pub space : n < 64
  pub number : x ≡ n

passed : {A : Type 0} (test : Bool) (f : Fault) (next : Result A Refusal) (a : A) → Ok a ≡ provided test f next → (test ≡ true) × (Ok a ≡ next)
passed true f next a e = (refl, e)
passed false f next a e = absurd (let z : ◌≡◌ {A = ℕ} 0 1 = cc in omega arith)

pub accepted : (k n : ℕ) (e : Entry) (x : ℕ) → told (Ok x) ≡ admitted k n e → Accepted k n e x
accepted k n e x a =
    let p = passed (named k n e) (missing e) (provided (ltb n 64) GuardsFull (Ok n)) x a in
    let q = passed (ltb n 64) GuardsFull (Ok n) x p.1 in
    record { names = p.0; space = ltb-true n 64 q.0; number = let o = q.1 in cc }

-- both names of a pair stand
pub both_named : (g h n : ℕ) → (ltb g n && ltb h n) ≡ true → (g < n) × (h < n)
both_named g h n e = let p = and_parts (ltb g n) (ltb h n) e in (ltb-true g n p.0, ltb-true h n p.1)

module _ (b : Meaning) (k n : ℕ) (w : b.switches ≡ k) (c : length b.guards ≡ n) where
  counted : (e : Entry) → admitted k n e ≡ answer b e
  counted e = ap (λ j. admitted j n e) (sym w) ∙ ap (λ j. admitted b.switches j e) (sym c)

  -- an accepted entry adds its guard
  pub entered : (e : Entry) (x : ℕ) (new : Meaning) → told (Ok x) ≡ admitted k n e → new ≡ with_guard b (entry_says b e) → Entered b e (Ok x) new
  entered e x new a o =
      let g : told (Ok x) ≡ answer b e = a ∙ counted e in
      record { given = g; left = o ∙ ap (λ r. settle r (with_guard b (entry_says b e)) b) g }

  -- a refused one adds none
  pub refused : (e : Entry) (f : Fault) → told {A = ℕ} (Err f) ≡ admitted k n e → Entered b e (Err f) b
  refused e f a =
      let g : told {A = ℕ} (Err f) ≡ answer b e = a ∙ counted e in
      record { given = g; left = ap (λ r. settle r (with_guard b (entry_says b e)) b) g }

  pub no_guard : (g m : ℕ) → n ≤ g → Err (refusal NoSuchGuard) ≡ asked b g m
  no_guard g m h = sym (rw (c, le-ltb g n h) refl)

  pub no_mode : (g m : ℕ) → g < n → 2 ^ k ≤ m → Err (refusal NoSuchMode) ≡ asked b g m
  no_mode g m h l = sym (rw (c, w, lt-ltb g n h, le-ltb m (2 ^ k) l) refl)

  pub answered : (g m : ℕ) (y : Bool) → g < n → m < 2 ^ k → y ≡ says b g m → told (Ok y) ≡ asked b g m
  answered g m y h l e = ap (λ v. Ok v) e ∙ sym (rw (c, w, lt-ltb g n h, lt-ltb m (2 ^ k) l) refl)

-- the guard and the mode of a question stand
pub record Found (b : Meaning) (g m : ℕ) : Type 0 where
  pub guard : g < length b.guards
  pub mode : m < modes b

pub stands : (b : Meaning) (g m : ℕ) → Ok tt ≡ found b g m → Found b g m
stands b g m a =
    let p = passed (ltb g (length b.guards)) NoSuchGuard (provided (ltb m (modes b)) NoSuchMode (Ok tt)) tt a in
    let q = passed (ltb m (modes b)) NoSuchMode (Ok tt) tt p.1 in
    record { guard = ltb-true g (length b.guards) p.0; mode = ltb-true m (modes b) q.0 }

-- an accepted entry makes the guards one more
pub one_more : (b : Meaning) (e : Entry) (r : Result ℕ Fault) (x : Meaning) → Entered b e r x → IfOk r (λ _. length x.guards ≡ length b.guards + 1)
one_more b e (Err f) x h = tt
one_more b e (Ok n) x h =
    ap (λ y. length y.guards) (h.left ∙ ap (λ r. settle r (with_guard b (entry_says b e)) b) (sym h.given)) ∙
    length-append b.guards (row (modes b) (entry_says b e) ∷ [])
