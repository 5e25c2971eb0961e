-- A table with one more occurrence, of equation e and variable v. Assumes nothing.
use Rattle.std.proofs.Common.{◌≡◌, ℕ, zero, suc, ◌^◌, ◌<◌, Bool, true, false, cond, ◌&&◌, ◌||◌, eqb, ◌≢◌, List, [], length, get_or, set, replicate, Some, None, Option, sym, refl, ap, ◌∙◌, ap₂, ⊎_elim, arith, get_or-set_other, get_or-set_same}
use Rattle.std.proofs.lemmas.List.{length-set, get_or-replicate}
use Rattle.std.proofs.lemmas.Bool.{cases_eq, cases_Bool, lt-ltb, eq-eqb, ne_eqb, eqb-true, and_parts}
use Rattle.sets.specs.Word.{member, joins}
use Rattle.sets.proofs.Members.{member_below, member-zero}
use Rattle.sigma.specs.Signature.{raised}

-- a member of a word is below 64, as `grind` applies it
pub member_bound : (w k : ℕ) → (member w k ≡ member w k) × (w < 2 ^ 64 → member w k ≡ true → k < 64)
member_bound w k = (refl, member_below 64 w k)

-- whether the place i, j is that of e, v
abbrev pub here : ℕ → ℕ → ℕ → ℕ → Bool
here e v i j = eqb e i && eqb v j

-- the words of a list, v joined to the one at e
pub joined_at : (xs : List ℕ) (e v w : ℕ) → e < length xs → v < 64 → ((k : ℕ) → member w k ≡ (joins v k || member (get_or xs e 0) k)) →
    (i j : ℕ) → member (get_or (set xs e w) i 0) j ≡ (here e v i j || member (get_or xs i 0) j)
joined_at xs e v w l lv h i j =
    ⊎_elim
    (λ (q : e ≡ i). rw (sym q, get_or-set_same xs e w 0 l, eq-eqb e e refl) (h j ∙ ap (λ b. (b && eqb v j) || member (get_or xs e 0) j) (lt-ltb v 64 lv)))
    (λ (q : e ≢ i). rw (get_or-set_other xs e i w 0 (λ z. q (sym z)), ne_eqb e i q) refl)
    (cases_eq e i)

and_swap : (a b : Bool) → (a && b) ≡ (b && a)
and_swap true true = refl
and_swap true false = refl
and_swap false true = refl
and_swap false false = refl

-- rows and columns agree again
pub agree_again : (e v : ℕ) (old new down up : ℕ → ℕ → Bool) → ((i j : ℕ) → new i j ≡ (here e v i j || old i j)) → ((j i : ℕ) → up j i ≡ (here v e j i || down j i)) →
    ((i j : ℕ) → old i j ≡ down j i) → (i j : ℕ) → new i j ≡ up j i
agree_again e v old new down up f h s i j = f i j ∙ ap₂ (λ a b. a || b) (and_swap (eqb e i) (eqb v j)) (s i j) ∙ sym (h j i)

-- the place is the one counted, or another
same_place : (e v i j : ℕ) → here e v i j ≡ true → (e ≡ i) × (v ≡ j)
same_place e v i j h = let p = and_parts (eqb e i) (eqb v j) h in (eqb-true e i p.0, eqb-true v j p.1)

-- filled places are those of active equations and variables again
pub within_again : (e v : ℕ) (old new active : ℕ → ℕ → Bool) → ((i j : ℕ) → new i j ≡ (here e v i j || old i j)) → active e v ≡ true →
    ((i j : ℕ) → (old i j && active i j) ≡ old i j) → (i j : ℕ) → (new i j && active i j) ≡ new i j
within_again e v old new active f a s i j =
    ⊎_elim
    (λ (h : here e v i j ≡ true). let p = same_place e v i j h in
    let on : active i j ≡ true = sym (ap₂ active p.0 p.1) ∙ a in rw (f i j, h, on) refl)
    (λ (h : here e v i j ≡ false). rw (f i j, h) (s i j))
    (cases_Bool (here e v i j))

-- what stands at a place, by whether it is filled and by the order kept there
abbrev pub held : Bool → ℕ → Option ℕ
held filled o = cond filled (Some o) None

abbrev order_at : List (List ℕ) → ℕ → ℕ → ℕ
order_at os i j = get_or (get_or os i []) j 0

module _ (os : List (List ℕ)) (e v h : ℕ) (l : e < length os) (lv : v < length (get_or os e [])) where
  abbrev put : List (List ℕ)
  put = set os e (set (get_or os e []) v h)

  order_here : order_at put e v ≡ h
  order_here = rw (get_or-set_same os e (set (get_or os e []) v h) [] l) (get_or-set_same (get_or os e []) v h 0 lv)

  order_there : (i j : ℕ) → here e v i j ≡ false → order_at put i j ≡ order_at os i j
  order_there i j n =
      ⊎_elim
      (λ (q : e ≡ i). rw (sym q, get_or-set_same os e (set (get_or os e []) v h) [] l)
      (get_or-set_other (get_or os e []) v j h 0 (λ z. let on : here e v i j ≡ true = rw (eq-eqb e i q, eq-eqb v j (sym z)) refl in let bad : ◌≡◌ {A = ℕ} 0 1 = cc in omega arith)))
      (λ (q : e ≢ i). ap (λ r. get_or r j 0) (get_or-set_other os e i (set (get_or os e []) v h) [] (λ z. q (sym z))))
      (cases_eq e i)

  pub rows_again : (n : ℕ) → ((i : ℕ) → i < n → length (get_or os i []) ≡ n) → (i : ℕ) → i < n → length (get_or put i []) ≡ n
  rows_again n w i b =
      ⊎_elim
      (λ (q : e ≡ i). rw (sym q, get_or-set_same os e (set (get_or os e []) v h) [] l) (length-set (get_or os e []) v h ∙ w e (omega arith)))
      (λ (q : e ≢ i). ap length (get_or-set_other os e i (set (get_or os e []) v h) [] (λ z. q (sym z))) ∙ w i b)
      (cases_eq e i)

  -- the place counted has the larger order, and the others what they had
  pub place_again : (k : ℕ) (active : Bool) (old new : ℕ → ℕ → Bool) → active ≡ true → ((i j : ℕ) → new i j ≡ (here e v i j || old i j)) → Some h ≡ raised (held (old e v) (order_at os e v)) k →
      (i j : ℕ) → held (new i j) (order_at put i j) ≡ cond (active && here e v i j) (raised (held (old i j) (order_at os i j)) k) (held (old i j) (order_at os i j))
  place_again k active old new a f larger i j =
      ⊎_elim
      (λ (n : here e v i j ≡ true). let p = same_place e v i j n in
      rw (a, f i j, n) (rw (sym p.0, sym p.1, order_here) larger))
      (λ (n : here e v i j ≡ false). rw (a, f i j, n, order_there i j n) refl)
      (cases_Bool (here e v i j))

zeros : (n k : ℕ) → get_or {A = ℕ} (replicate n 0) k 0 ≡ 0
zeros zero k = refl
zeros (suc n) zero = refl
zeros (suc n) (suc k) = zeros n k

-- nothing is a member of words of zeros
pub bare : (n i j : ℕ) → member (get_or (replicate n 0) i 0) j ≡ false
bare n i j = ap (λ w. member w j) (zeros n i) ∙ member-zero j

pub rows_zero : (n i : ℕ) → i < n → length {A = ℕ} (get_or (replicate n (replicate 64 0)) i []) ≡ 64
rows_zero n i l = ap length (get_or-replicate n i (replicate 64 0) [] l)
