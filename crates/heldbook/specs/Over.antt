-- Laws of a held book, by the book below. Assumes nothing.
use Rattle.std.specs.Prelude.{◌≡◌, ℕ, zero, suc, ◌<◌, ◌≤◌, Bool, false, List, [], ◌∷◌, map, length, get_or, replicate, slice_index_or, Option, Some, None, refl}
use Rattle.std.proofs.Common.{ap, ◌∙◌, ⊎_elim, arith, length-set}
use Rattle.std.proofs.lemmas.Bool.{lt-ltb, le-ltb, cases_lt}
use Rattle.std.proofs.lemmas.List.{length-map, length-append, length-replicate, get_or-map}
use Rattle.guards.specs.Meaning.{Meaning, Sound, Hold, free, seen, modes}
use Rattle.guards.proofs.Bits.{seen-lt}
use Rattle.guards.proofs.Rows.{row_at, row-length}
use Rattle.heldbook.specs.Held.{hold_of, alone, held_row, holding, held, under}

-- the rows say what those below say in the put mode
pub rows_say : (s : ℕ) (h : Hold) (n : ℕ) (gs : List (List Bool)) (g m : ℕ) → m < n → slice_index_or (slice_index_or (map (held_row s h n) gs) g []) m false ≡ slice_index_or (slice_index_or gs g []) (seen (alone s h) m) false
rows_say s h n [] g m l = refl
rows_say s h n (r ∷ gs) zero m l = row_at n (λ i. get_or r (seen (alone s h) i) false) m l
rows_say s h n (r ∷ gs) (suc g) m l = rows_say s h n gs g m l

module _ (s : ℕ) (h : Hold) (b : Meaning) where
  pub held_count : length (holding s h b).guards ≡ length b.guards
  held_count = length-map b.guards (held_row s h (modes b))

  pub reach : s < b.switches → length (alone s h) ≤ b.switches
  reach l = omega (arith, length-append (replicate s free) (h ∷ []), length-replicate s free)

  holding_sound : (most : ℕ) → s < b.switches → Sound most b → Sound most (holding s h b)
  holding_sound most i x = record {
    few = x.few;
    one_each = simp length-set x.one_each;
    some = rw held_count x.some;
    room = rw held_count x.room;
    rows = λ g l. ap length (get_or-map (held_row s h (modes b)) b.guards g [] [] (rw (← held_count) l)) ∙ row-length (modes b) (λ m. get_or (slice_index_or b.guards g []) (seen (alone s h) m) false);
    always = λ m l. rows_say s h (modes b) b.guards 0 m l ∙ x.always (seen (alone s h) m) (seen-lt (alone s h) b.switches m (reach i) l);
  }

-- held or not
pub held_in : (s : ℕ) (at : Bool) (b : Meaning) → s < b.switches → held s at b ≡ holding s (hold_of at) b
held_in s at b l = rw (lt-ltb s b.switches l) refl

pub held_out : (s : ℕ) (at : Bool) (b : Meaning) → b.switches ≤ s → held s at b ≡ b
held_out s at b l = rw (le-ltb s b.switches l) refl

pub held_sound : (s : ℕ) (at : Bool) (b : Meaning) (most : ℕ) → Sound most b → Sound most (held s at b)
held_sound s at b most x =
    ⊎_elim
    (λ l. rw (held_in s at b l) (holding_sound s (hold_of at) b most l x))
    (λ l. rw (held_out s at b l) x)
    (cases_lt s b.switches)

pub under_sound : (hold : Option (ℕ × Bool)) (b : Meaning) (most : ℕ) → Sound most b → Sound most (under hold b)
under_sound None b most x = x
under_sound (Some h) b most x = held_sound h.0 h.1 b most x
