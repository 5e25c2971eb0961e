-- A walk along the chain of a file. Assumes nothing.
use Rattle.std.proofs.Common.{◌≡◌, ℕ, zero, suc, ◌+◌, ◌-◌, ◌<◌, ◌≤◌, List, [], ◌∷◌, length, Ok, Err, sym, refl, ap, ◌∙◌, subst, ⊎_elim, add-one, arith}
use Rattle.std.proofs.lemmas.Bool.{cases_eq, cases_lt, ne_eqb, le-ltb, cond-true, cond-false}
use Rattle.faults.specs.declared.Fault.{Fault}
use Rattle.faults.specs.declared.Fault.TheVariants.{EndlessChain}
use Rattle.sheetfile.specs.Format.{first_of, count_of, next_of}
use Rattle.sheetfile.specs.Opening.{Links, Chain, done, link, Named, first, next, Never}
use Rattle.sheetfile.specs.Judging.{preceded, walked}
use Rattle.sheetfile.proofs.Twice.{twice}

-- the number that is named after k records, from number s on
unfoldable pub place : List ℕ → ℕ → ℕ → ℕ
place f s zero = s
place f s (suc k) = next_of f (place f s k)

abbrev pub Linked : List ℕ → ℕ → ℕ → Type 0
Linked f s k = (j : ℕ) → j < k → Links f (place f s j)

-- every place is one of the first j, once the place at j is that at an earlier i
among : (f : List ℕ) (s i j : ℕ) → i < j → place f s i ≡ place f s j → (k : ℕ) → (h : ℕ) × (h < j) × (place f s k ≡ place f s h)
unfolding place
among f s i j l e zero = (0, omega arith, refl)
among f s i j l e (suc k) =
    let o = among f s i j l e k in
    let low = o.1 in
    ⊎_elim
    (λ (q : suc o.0 ≡ j). (i, l, ap (next_of f) o.2 ∙ ap (place f s) q ∙ sym e))
    (λ q. (suc o.0, omega (arith, q), ap (next_of f) o.2))
    (cases_eq (suc o.0) j)

-- more links than there are records: the walk goes round, and every place links
round : (f : List ℕ) (s k : ℕ) → count_of f < k → Linked f s k → (i : ℕ) → Links f (place f s i)
round f s k long past i =
    let t = twice (count_of f) (λ j. place f s j - 1) (λ j l. let h = past j (omega arith) in omega (arith, h.some, h.within)) in
    let si = past t.early (omega arith) in
    let sj = past t.late (omega arith) in
    let e : place f s t.early ≡ place f s t.late = omega (arith, si.some, sj.some, t.same) in
    again (among f s t.early t.late t.apart e i) t.within
  where
    again : {j : ℕ} → ((h : ℕ) × (h < j) × (place f s i ≡ place f s h)) → j ≤ count_of f → Links f (place f s i)
    again h l = subst (Links f) {x = place f s h.0} {y = place f s i} (sym h.2) (past h.0 (omega (arith, h.1)))

-- a walk that stops links no more often than there are records
pub stops_within : (f : List ℕ) (s k i : ℕ) → Linked f s k → (Links f (place f s i) → Links f (next_of f (place f s i)) → ⊥) → k ≤ count_of f
unfolding place
stops_within f s k i past stuck = ⊎_elim
    (λ l. absurd (stuck (round f s k l past i) (round f s k l past (suc i))))
    (λ l. l)
    (cases_lt (count_of f) k)

-- after k records that link the walk from the header is at a number
pub record Way (f : List ℕ) (k at : ℕ) : Type 0 where
  pub here : at ≡ place f (first_of f) k
  pub named : Named f at
  pub past : Linked f (first_of f) k

pub way_none : (f : List ℕ) (at : ℕ) → at ≡ first_of f → Way f 0 at
unfolding place
way_none f at e = record { here = e; named = subst (Named f) (sym e) first; past = λ j l. absurd (omega arith) }

pub way_more : (f : List ℕ) (k at to : ℕ) → Way f k at → Links f at → to ≡ next_of f at → Way f (k + 1) to
unfolding place
way_more f k at to w l e = rw add-one (record {
  here = e ∙ ap (next_of f) w.here;
  named = subst (Named f) (sym e) (next at w.named l);
  past = λ j h. ⊎_elim
      (λ (q : j ≡ k). subst (Links f) (w.here ∙ ap (place f (first_of f)) (sym q)) l)
      (λ q. w.past j (omega (arith, q)))
      (cases_eq j k);
})

-- from a number on the way that chains to zero, back to the first
back : (f : List ℕ) (s k : ℕ) → Linked f s k → (ns : List ℕ) → Chain f (place f s k) ns → (ms : List ℕ) × Chain f s ms
unfolding place
back f s zero past ns c = (ns, c)
back f s (suc k) past ns c = back f s k (λ j l. past j (omega arith)) (place f s k ∷ ns) (link (place f s k) ns (past k (omega arith)) c)

pub way_zero : (f : List ℕ) (k at : ℕ) → Way f k at → at ≡ 0 → (ns : List ℕ) × Chain f (first_of f) ns
way_zero f k at w e = back f (first_of f) k w.past [] (subst (λ n. Chain f n []) (sym e ∙ w.here) done)

-- a number that is named stands on the way
pub way_of : (f : List ℕ) (n : ℕ) → Named f n → (k : ℕ) × Way f k n
way_of f n first = (0, way_none f (first_of f) refl)
way_of f n (next m w l) = let o = way_of f m w in (o.0 + 1, way_more f o.0 m (next_of f m) o.1 l refl)

pub way_all : (f : List ℕ) (k at : ℕ) → Way f k at → count_of f < k → Never f
way_all f k at w long n named =
    let o = way_of f n named in subst (Links f) (sym o.1.here) (round f (first_of f) k long w.past o.0)

pub way_low : (f : List ℕ) (k at : ℕ) → Way f k at → at ≤ count_of f → first_of f ≤ count_of f
unfolding place
way_low f zero at w l = omega (arith, w.here)
way_low f (suc k) at w l = (w.past 0 (omega arith)).within

-- the walk as it is worked out

walked_link : (f : List ℕ) (k n : ℕ) → Links f n → next_of f n ≤ count_of f → walked f (suc k) n ≡ preceded n (walked f k (next_of f n))
unfolding walked
walked_link f k n l h =
    cond-false _ _ _ (ne_eqb n 0 (λ e. omega (arith, l.some)))
    ∙ cond-false _ _ _ (le-ltb (count_of f) (next_of f n) h)
    ∙ cond-true _ _ _ l.asks

pub chain_low : (f : List ℕ) (n : ℕ) (ns : List ℕ) → Chain f n ns → n ≤ count_of f
chain_low f n ns done = omega arith
chain_low f n ns (link m ms l c) = l.within

pub walked_chain : (f : List ℕ) (k n : ℕ) (ns : List ℕ) → Chain f n ns → length ns < k → walked f k n ≡ Ok ns
unfolding walked
walked_chain f zero n ns c l = absurd (omega arith)
walked_chain f (suc k) n ns done l = refl
walked_chain f (suc k) n ns (link m ms h c) l =
    walked_link f k m h (chain_low f (next_of f m) ms c) ∙ ap (preceded m) (walked_chain f k (next_of f m) ms c (omega arith))

pub walked_never : (f : List ℕ) → Never f → (k n : ℕ) → Named f n → walked f k n ≡ Err EndlessChain
unfolding walked
walked_never f h zero n w = refl
walked_never f h (suc k) n w =
    let on = next n w (h n w) in
    walked_link f k n (h n w) (h (next_of f n) on).within ∙ ap (preceded n) (walked_never f h k (next_of f n) on)

-- a refusal after k records is that of the whole walk
pub walked_along : (f : List ℕ) (s k i j : ℕ) (e : Fault) → i ≡ k + j → Linked f s k → place f s k ≤ count_of f → walked f j (place f s k) ≡ Err e → walked f i s ≡ Err e
unfolding place
walked_along f s zero i j e q past low h = let p : i ≡ j = omega arith in ap (λ x. walked f x s) p ∙ h
walked_along f s (suc k) i j e q past low h =
    let l = past k (omega arith) in
    walked_along f s k i (suc j) e (omega arith) (λ x y. past x (omega arith)) l.within (walked_link f j (place f s k) l low ∙ ap (preceded (place f s k)) h)

-- a chain from its first number

shift : (f : List ℕ) (s k : ℕ) → place f (next_of f s) k ≡ place f s (suc k)
unfolding place
shift f s zero = refl
shift f s (suc k) = ap (next_of f) (shift f s k)

links_at : (f : List ℕ) (s : ℕ) (ns : List ℕ) → Chain f s ns → Linked f s (length ns)
unfolding place
links_at f s ns done k l = absurd (omega arith)
links_at f s ns (link n ms h c) zero l = h
links_at f s ns (link n ms h c) (suc k) l = subst (Links f) (shift f n k) (links_at f (next_of f n) ms c k (omega arith))

ends_at : (f : List ℕ) (s : ℕ) (ns : List ℕ) → Chain f s ns → place f s (length ns) ≡ 0
unfolding place
ends_at f s ns done = refl
ends_at f s ns (link n ms h c) = sym (shift f n (length ms)) ∙ ends_at f (next_of f n) ms c

-- a chain has no more numbers than there are records
pub bounded : (f : List ℕ) (s : ℕ) (ns : List ℕ) → Chain f s ns → length ns ≤ count_of f
bounded f s ns c = stops_within f s (length ns) (length ns) (links_at f s ns c) (λ l _. omega (arith, l.some, ends_at f s ns c))

-- from one number there is one chain
pub one_chain : (f : List ℕ) (s : ℕ) (ns ms : List ℕ) → Chain f s ns → Chain f s ms → ns ≡ ms
one_chain f s ns ms c d =
    let p = walked_chain f (suc (count_of f)) s ns c (omega (arith, bounded f s ns c)) in
    let q = walked_chain f (suc (count_of f)) s ms d (omega (arith, bounded f s ms d)) in
    cc
