-- A held book commutes with entries and questions of the book below. Assumes nothing.
use Rattle.std.proofs.Common.{◌≡◌, ℕ, ◌<◌, ◌≤◌, Bool, false, not, List, [], ◌∷◌, ◌++◌, map, length, get_or, Option, Some, None, Ok, Err, Result, sym, refl, ap, ◌∙◌, subst, ⊎_elim, arith}
use Rattle.std.proofs.lemmas.List.{map-append}
use Rattle.std.proofs.lemmas.Bool.{lt-ltb, le-ltb, cases_lt}
use Rattle.faults.specs.declared.Fault.{Fault}
use Rattle.faults.specs.Refusals.{Refusal, told}
use Rattle.guards.specs.declared.entry.Entry.{Entry}
use Rattle.guards.specs.declared.entry.Entry.TheVariants.{Switch, Not, Both, Either}
use Rattle.guards.specs.Meaning.{Meaning, Sound, Hold, seen, row, modes, with_guard, on_in}
use Rattle.guards.specs.Calls.{entry_says, answer, settle, after, asked, Entered}
use Rattle.guards.proofs.Bits.{seen-lt, seen-ge}
use Rattle.guards.proofs.Rows.{row_at, row_same}
use Rattle.heldbook.specs.Held.{hold_of, alone, held_row, holding, held, under, put_mode, mode_below}
use Rattle.heldbook.specs.Over.{rows_say, held_count, reach, held_in, held_out}
use Rattle.heldbook.proofs.Put.{seen-put}

settled : (f : Meaning → Meaning) (r : Result ℕ Refusal) (x y : Meaning) → settle r (f x) (f y) ≡ f (settle r x y)
settled f (Ok n) x y = refl
settled f (Err e) x y = refl

module _ (s : ℕ) (h : Hold) (b : Meaning) (in-book : s < b.switches) (one_each : length b.holds ≡ b.switches) where
  put-lt : (m : ℕ) → m < modes b → seen (alone s h) m < modes b
  put-lt m l = seen-lt (alone s h) b.switches m (reach s h b in-book) l

  pub held_answer : (e : Entry) → answer (holding s h b) e ≡ answer b e
  held_answer e = rw (held_count s h b) refl

  held_entry : (e : Entry) (m : ℕ) → m < modes b → entry_says (holding s h b) e m ≡ entry_says b e (seen (alone s h) m)
  held_entry (Switch t) m l = ap (on_in t) (seen-put b.holds s h m (omega arith))
  held_entry (Not g) m l = ap not (rows_say s h (modes b) b.guards g m l)
  held_entry (Both g j) m l = rw (rows_say s h (modes b) b.guards g m l, rows_say s h (modes b) b.guards j m l) refl
  held_entry (Either g j) m l = rw (rows_say s h (modes b) b.guards g m l, rows_say s h (modes b) b.guards j m l) refl

  held_new_row : (e : Entry) → row (modes b) (entry_says (holding s h b) e) ≡ held_row s h (modes b) (row (modes b) (entry_says b e))
  held_new_row e =
      row_same (modes b) (entry_says (holding s h b) e) (λ m. get_or (row (modes b) (entry_says b e)) (seen (alone s h) m) false)
      (λ m l. held_entry e m l ∙ sym (row_at (modes b) (entry_says b e) (seen (alone s h) m) (put-lt m l)))

  abbrev of_guards : List (List Bool) → Meaning
  of_guards gs = record { switches = b.switches; holds = (holding s h b).holds; guards = gs }

  held_with : (e : Entry) → with_guard (holding s h b) (entry_says (holding s h b) e) ≡ holding s h (with_guard b (entry_says b e))
  held_with e =
      ap of_guards
      (ap (λ r. map (held_row s h (modes b)) b.guards ++ (r ∷ [])) (held_new_row e) ∙
      sym (map-append (held_row s h (modes b)) b.guards (row (modes b) (entry_says b e) ∷ [])))

  holding-after : (e : Entry) → after (holding s h b) e ≡ holding s h (after b e)
  holding-after e = rw (held_answer e, held_with e) (settled (holding s h) (answer b e) (with_guard b (entry_says b e)) b)

  holding-asked : (g m : ℕ) → asked (holding s h b) g m ≡ asked b g (seen (alone s h) m)
  holding-asked g m =
      rw (held_count s h b)
      (⊎_elim
      (λ l. rw (lt-ltb m (modes b) l, lt-ltb (seen (alone s h) m) (modes b) (put-lt m l), rows_say s h (modes b) b.guards g m l) refl)
      (λ l. rw (le-ltb m (modes b) l, le-ltb (seen (alone s h) m) (modes b) (seen-ge (alone s h) b.switches m (reach s h b in-book) l)) refl)
      (cases_lt m (modes b)))

pub after-switches : (b : Meaning) (e : Entry) → (after b e).switches ≡ b.switches
after-switches b e = either_way (answer b e)
  where
    either_way : (r : Result ℕ Refusal) → (settle r (with_guard b (entry_says b e)) b).switches ≡ b.switches
    either_way (Ok n) = refl
    either_way (Err f) = refl

module _ (s : ℕ) (at : Bool) (b : Meaning) (most : ℕ) (x : Sound most b) where
  -- a fact of books that stands of b and of b with the switch held
  either : (P : Meaning → Type 0) → (s < b.switches → P (holding s (hold_of at) b)) → (b.switches ≤ s → P b) → P (held s at b)
  either P i o = ⊎_elim (λ l. subst P (sym (held_in s at b l)) (i l)) (λ l. subst P (sym (held_out s at b l)) (o l)) (cases_lt s b.switches)

  pub held-switches : (held s at b).switches ≡ b.switches
  held-switches = either (λ y. y.switches ≡ b.switches) (λ _. refl) (λ _. refl)

  pub held_guards : length (held s at b).guards ≡ length b.guards
  held_guards = either (λ y. length y.guards ≡ length b.guards) (λ _. held_count s (hold_of at) b) (λ _. refl)

  pub held_answers : (e : Entry) → answer (held s at b) e ≡ answer b e
  held_answers e = rw (held-switches, held_guards) refl

  pub held_after : (e : Entry) → after (held s at b) e ≡ held s at (after b e)
  held_after e =
      let k = after-switches b e in
      either (λ y. after y e ≡ held s at (after b e))
      (λ l. holding-after s (hold_of at) b l x.one_each e ∙ sym (held_in s at (after b e) (omega arith)))
      (λ l. sym (held_out s at (after b e) (omega arith)))

  pub held-asked : (g m : ℕ) → asked (held s at b) g m ≡ asked b g (put_mode s at b m)
  held-asked g m =
      either (λ y. asked y g m ≡ asked b g (put_mode s at b m))
      (λ l. rw (lt-ltb s b.switches l) (holding-asked s (hold_of at) b l x.one_each g m))
      (λ l. rw (le-ltb s b.switches l) refl)

module _ (b : Meaning) (most : ℕ) (x : Sound most b) where
  -- an entry into the book below is that entry into the held book
  pub under_entered : (hold : Option (ℕ × Bool)) (e : Entry) (r : Result ℕ Fault) (y : Meaning) → Entered b e r y → Entered (under hold b) e r (under hold y)
  under_entered None e r y below = below
  under_entered (Some h) e r y below = record {
    given = below.given ∙ sym (held_answers h.0 h.1 b most x e);
    left = ap (held h.0 h.1) below.left ∙ sym (held_after h.0 h.1 b most x e);
  }

  -- what the book below answers in the put mode is what the held book answers
  pub under_answered : (hold : Option (ℕ × Bool)) (r : Result Bool Fault) (g m m' : ℕ) → told r ≡ asked b g m' → m' ≡ mode_below hold b m → told r ≡ asked (under hold b) g m
  under_answered None r g m m' below put = below ∙ ap (asked b g) put
  under_answered (Some h) r g m m' below put = below ∙ ap (asked b g) put ∙ sym (held-asked h.0 h.1 b most x g m)
