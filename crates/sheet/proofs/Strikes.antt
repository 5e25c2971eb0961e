-- A strike, from the occurrences that it leaves. Assumes nothing.
use Rattle.std.proofs.Common.{◌≡◌, ℕ, ◌+◌, ◌<◌, ◌≤◌, Bool, true, false, not, ◌&&◌, List, [], ◌∷◌, length, Ok, Err, filter, sym, refl, ap, ◌∙◌, ⊎_elim, arith}
use Rattle.std.proofs.lemmas.Bool.{lt-ltb, le-ltb, cases_Bool, cond-true, cond-false}
use Rattle.std.proofs.lemmas.List.Filters.{length-filter_both}
use Rattle.faults.specs.declared.Fault.{Fault}
use Rattle.faults.specs.declared.Fault.TheVariants.{NothingToStrike}
use Rattle.faults.specs.Refusals.{refusal}
use Rattle.guards.specs.Calls.{settle}
use Rattle.reading.specs.declared.occurrence.Occurrence.{Occurrence}
use Rattle.sheet.specs.declared.call.Change.{Change}
use Rattle.sheet.specs.declared.call.Change.TheVariants.{Strike}
use Rattle.sheet.specs.Ledger.{Ledger}
use Rattle.sheet.specs.Calls.{reply, changed, Drafts, has_guard, has_equation, has_variable, named, other, struck, unstruck}

accepted : (l : Ledger) (c : Change) (x : Ledger) → reply l c ≡ Ok tt → x ≡ changed l c → Drafts l c (Ok tt) x
accepted l c x a e = record { given = sym a; left = e ∙ sym (ap (λ r. settle r (changed l c) l) a) }

declined : (l : Ledger) (c : Change) (f : Fault) (x : Ledger) → reply l c ≡ Err (refusal f) → x ≡ l → Drafts l c (Err f) x
declined l c f x a e = record { given = sym a; left = e ∙ sym (ap (λ r. settle r (changed l c) l) a) }

-- what a filter keeps whole is as it was
kept_whole : {X : Type 0} (p : X → Bool) (xs : List X) → length xs ≤ length (filter p xs) → filter p xs ≡ xs
kept_whole p [] h = refl
kept_whole p (x ∷ xs) h =
    ⊎_elim
    (λ (e : p x ≡ true). cond-true (p x) (x ∷ filter p xs) (filter p xs) e ∙
    ap (λ ys. x ∷ ys) (kept_whole p xs (omega (arith, ap length (cond-true (p x) (x ∷ filter p xs) (filter p xs) e)))))
    (λ (e : p x ≡ false). absurd (omega (arith, ap length (cond-false (p x) (x ∷ filter p xs) (filter p xs) e), length-filter_both p (λ y. not (p y)) (λ y. refl) xs)))
    (cases_Bool (p x))

module _ (l : Ledger) (i j g : ℕ) (os : List Occurrence) (a : has_guard l g ≡ true) (e : (has_equation l i && has_variable l j) ≡ true) (kept : os ≡ unstruck l i j g) where
  abbrev left : Ledger
  left = record { book = l.book; equations = l.equations; variables = l.variables; occurrences = os; assumed = l.assumed }

  -- those struck are those gone
  gone : length (struck l i j g) + length os ≡ length l.occurrences
  gone = omega (arith, ap length kept, length-filter_both (named i j g) (other i j g) (λ o. refl) l.occurrences)

  with_kept : (os' : List Occurrence) → os ≡ os' → left ≡ record { book = l.book; equations = l.equations; variables = l.variables; occurrences = os'; assumed = l.assumed }
  with_kept os' q = ap (λ xs. record { book = l.book; equations = l.equations; variables = l.variables; occurrences = xs; assumed = l.assumed }) q

  pub some_struck : length os < length l.occurrences → Drafts l (Strike i j g) (Ok tt) left
  some_struck h =
      let r : reply l (Strike i j g) ≡ Ok tt = rw (a, e, lt-ltb 0 (length (struck l i j g)) (omega (arith, gone))) refl in
      accepted l (Strike i j g) left r (with_kept (unstruck l i j g) kept)

  pub none_struck : length l.occurrences ≤ length os → Drafts l (Strike i j g) (Err NothingToStrike) left
  none_struck h =
      let r : reply l (Strike i j g) ≡ Err (refusal NothingToStrike) = rw (a, e, le-ltb 0 (length (struck l i j g)) (omega (arith, gone))) refl in
      let same = kept ∙ kept_whole (other i j g) l.occurrences (omega (arith, ap length kept)) in
      declined l (Strike i j g) NothingToStrike left r (with_kept l.occurrences same)
