-- Every file has one answer. Assumes nothing.
use Rattle.std.proofs.Common.{◌≡◌, ℕ, zero, suc, ◌+◌, ◌-◌, ◌≤◌, Bool, true, false, eqb, ltb, List, [], ◌∷◌, Ok, Err, Result, sym, refl, ap, ◌∙◌, subst, arith}
use Rattle.std.proofs.lemmas.Bool.{cond_both, cond-true, cond-false, eqb-true, eqb-false, ne_eqb, ltb-true, ltb-false, lt-ltb, le-ltb, both_ways}
use Rattle.std.proofs.lemmas.Bool.Decides.{nat_tests}
use Rattle.faults.specs.declared.Fault.{Fault}
use Rattle.faults.specs.declared.Fault.TheVariants.{BadLength, BadHeader, BadLink, BadRecord, EndlessChain}
use Rattle.faults.specs.Refusals.{told}
use Rattle.sheetfile.specs.Format.{first_of, count_of, part_of, next_of, sound}
use Rattle.sheetfile.specs.Opening.{Whole, Headed, Links, Chain, done, link, Named, first, Beyond, by_header, by_record, Faulty, Never, Judged, chained, odd_length, bad_header, beyond, faulty, never}
use Rattle.sheetfile.specs.Judging.{is_whole, is_headed, preceded, walked, opening, Refused, OneAnswer}
use Rattle.sheetfile.specs.Reader.{numbers_of, rest_from, Starts}
use Rattle.sheetfile.proofs.Walks.{Way, way_none, way_more, way_of, way_all, way_low, stops_within, chain_low, walked_chain, walked_never, walked_along, bounded}

refuted : (b : Bool) → (b ≡ true → ⊥) → b ≡ false
refuted true h = absurd (h refl)
refuted false h = refl

whole_true : (f : List ℕ) → is_whole f ≡ true → Whole f
whole_true f e = record { least = grind (arith, nat_tests); most = grind (arith, nat_tests); eights = grind (arith, nat_tests) }

true_whole : (f : List ℕ) → Whole f → is_whole f ≡ true
true_whole f w = let a = w.least in let b = w.most in let c = w.eights in grind (arith, nat_tests)

headed_true : (f : List ℕ) → is_headed f ≡ true → Headed f
headed_true f e = record { switches = grind (arith, nat_tests); equations = grind (arith, nat_tests); variables = grind (arith, nat_tests); zero5 = grind (arith, nat_tests); zero6 = grind (arith, nat_tests); zero7 = grind (arith, nat_tests) }

true_headed : (f : List ℕ) → Headed f → is_headed f ≡ true
true_headed f w = let a = w.switches in let b = w.equations in let c = w.variables in let x = w.zero5 in let y = w.zero6 in let z = w.zero7 in grind (arith, nat_tests)

-- what stands of every way that a walk can end stands of its answer
walked_is : (f : List ℕ) (k j n : ℕ) → suc (count_of f) ≡ k + j → n ≤ count_of f → Way f j n
    → (P : Result (List ℕ) Fault → Type 0)
    → ((ns : List ℕ) → Chain f n ns → P (Ok ns))
    → ((m : ℕ) → Beyond f m → P (Err (BadLink m)))
    → ((m : ℕ) → Faulty f m → P (Err (BadRecord m)))
    → (Never f → P (Err EndlessChain))
    → P (walked f k n)
unfolding walked
walked_is f zero j n e low w P a b c d = d (way_all f j n w (omega arith))
walked_is f (suc k) j n e low w P a b c d =
    cond_both (eqb n 0) _ _ P
    (λ z. a [] (subst (λ (x : ℕ). Chain f x []) (sym (eqb-true n 0 z)) done))
    (λ z. let nz = eqb-false n 0 z in
    let up : 1 ≤ n = omega arith in
    cond_both (ltb (count_of f) (next_of f n)) _ _ P
    (λ t. b n (by_record n w.named up low (ltb-true (count_of f) (next_of f n) t)))
    (λ t. let on = ltb-false (count_of f) (next_of f n) t in
    cond_both (sound (part_of f n)) _ _ P
    (λ s. let l : Links f n = record { some = up; within = low; asks = s } in
    walked_is f k (j + 1) (next_of f n) (omega arith) on (way_more f j n (next_of f n) w l refl) (λ r. P (preceded n r))
    (λ ns t. a (n ∷ ns) (link n ns l t)) b c d)
    (λ s. c n (record { met = w.named; some = up; within = low; onward = on; silent = s }))))

judged : (f : List ℕ) → Judged f (opening f)
unfolding opening
judged f =
    cond_both (is_whole f) _ _ (Judged f)
    (λ a. let w = whole_true f a in
    cond_both (is_headed f) _ _ (Judged f)
    (λ b. let h = headed_true f b in
    cond_both (ltb (count_of f) (first_of f)) _ _ (Judged f)
    (λ t. beyond 0 w h (by_header (ltb-true (count_of f) (first_of f) t)))
    (λ t.
    walked_is f (suc (count_of f)) 0 (first_of f) (omega arith) (ltb-false (count_of f) (first_of f) t) (way_none f (first_of f) refl) (Judged f)
    (λ ns c. chained ns w h c) (λ m c. beyond m w h c) (λ m c. faulty m w h c) (λ c. never w h c)))
    (λ b. bad_header w (λ h. both_ways (is_headed f) b (true_headed f h))))
    (λ a. odd_length (λ w. both_ways (is_whole f) a (true_whole f w)))

-- past the header, the answer is that of the walk
from_walk : (f : List ℕ) (r : Result (List ℕ) Fault) → Whole f → Headed f → first_of f ≤ count_of f → walked f (suc (count_of f)) (first_of f) ≡ r → r ≡ opening f
unfolding opening
from_walk f r w h low e =
    sym (cond-true _ _ _ (true_whole f w) ∙ cond-true _ _ _ (true_headed f h) ∙ cond-false _ _ _ (le-ltb (count_of f) (first_of f) low) ∙ e)

-- a refusal at a record that is met, where the walk stops
from_stop : (f : List ℕ) (n : ℕ) (e : Fault) → Whole f → Headed f → Named f n → n ≤ count_of f
    → (Links f n → Links f (next_of f n) → ⊥) → ((j : ℕ) → walked f (suc j) n ≡ Err e) → Err e ≡ opening f
from_stop f n e w h met low stuck stops =
    let k = (way_of f n met).0 in
    let v = (way_of f n met).1 in
    let s = first_of f in
    let at = v.here in
    let within : k ≤ count_of f = stops_within f s k k v.past (subst (λ x. Links f x → Links f (next_of f x) → ⊥) at stuck) in
    from_walk f (Err e) w h (way_low f k n v low)
    (walked_along f s k (suc (count_of f)) (suc (count_of f - k)) e (omega arith) v.past (omega arith) (ap (walked f (suc (count_of f - k))) (sym at) ∙ stops (count_of f - k)))

pub unique : (f : List ℕ) (r : Result (List ℕ) Fault) → Judged f r → r ≡ opening f
unfolding walked opening
unique f r (chained ns w h c) = from_walk f (Ok ns) w h (chain_low f (first_of f) ns c) (walked_chain f (suc (count_of f)) (first_of f) ns c (omega (arith, bounded f (first_of f) ns c)))
unique f r (odd_length bad) = sym (cond-false _ _ _ (refuted (is_whole f) (λ t. bad (whole_true f t))))
unique f r (bad_header w bad) =
    sym (cond-true _ _ _ (true_whole f w) ∙ cond-false _ _ _ (refuted (is_headed f) (λ t. bad (headed_true f t))))
unique f r (beyond m w h (by_header l)) =
    sym (cond-true _ _ _ (true_whole f w) ∙ cond-true _ _ _ (true_headed f h) ∙ cond-true _ _ _ (lt-ltb (count_of f) (first_of f) l))
unique f r (beyond m w h (by_record n met some low l)) =
    from_stop f n (BadLink n) w h met low (λ _ k. omega (arith, k.within))
    (λ j. cond-false _ _ _ (ne_eqb n 0 (λ e. omega arith)) ∙ cond-true _ _ _ (lt-ltb (count_of f) (next_of f n) l))
unique f r (faulty n w h b) =
    from_stop f n (BadRecord n) w h b.met b.within (λ k _. both_ways (sound (part_of f n)) b.silent k.asks)
    (λ j. cond-false _ _ _ (ne_eqb n 0 (λ e. omega (arith, b.some))) ∙ cond-false _ _ _ (le-ltb (count_of f) (next_of f n) b.onward) ∙ cond-false _ _ _ b.silent)
unique f r (never w h b) = from_walk f (Err EndlessChain) w h (b (first_of f) first).within (walked_never f b (suc (count_of f)) (first_of f) first)

-- the numbers along a chain are those that are still to come
pub rest_is : (f : List ℕ) (p : ℕ) (ns : List ℕ) → Chain f p ns → rest_from f p ≡ ns
rest_is f p ns c = ap numbers_of (walked_chain f (suc (count_of f)) p ns c (omega (arith, bounded f p ns c)))

-- a walk that chained to zero, for a reader at its first number
pub starts : (f : List ℕ) (p : ℕ) → Whole f → Headed f → p ≡ first_of f → ((ns : List ℕ) × Chain f (first_of f) ns) → Starts f p
starts f p w h e o =
    let c : Chain f p o.0 = subst (λ x. Chain f x o.0) (sym e) o.1 in
    let r = rest_is f p o.0 c in
    record {
      opens = record {
        same = refl;
        answer = sym (unique f (Ok o.0) (chained o.0 w h o.1)) ∙ ap Ok (sym r);
        right = subst (λ ns. Judged f (Ok ns)) (sym r) (chained o.0 w h o.1);
      };
      chain = subst (Chain f p) (sym r) c;
    }

pub one_answer : OneAnswer
one_answer f = (judged f, unique f)

pub refused : (f : List ℕ) (e : Fault) → opening f ≡ Err e → Refused f e
refused f e q = record { answer = ap told q; right = subst (Judged f) q (judged f) }

pub odd_length_refused : (f : List ℕ) → is_whole f ≡ false → Refused f BadLength
unfolding opening
odd_length_refused f w = refused f BadLength (rw w refl)

pub bad_header_refused : (f : List ℕ) → is_whole f ≡ true → is_headed f ≡ false → Refused f BadHeader
unfolding opening
bad_header_refused f w h = refused f BadHeader (rw (w, h) refl)
