-- The pass over the entries, which works out the guards' answers one after the other. Assumes nothing.
use Rattle.std.proofs.Common.{◌≡◌, ℕ, zero, suc, ◌+◌, ◌^◌, ◌<◌, Bool, true, false, not, ◌&&◌, ◌||◌, ◌≢◌, List, length, get_or, replicate, slice_index_or, slice_set, sym, ap, ◌∙◌, ⊎_elim, arith, get_or-set_same, get_or-set_other}
use Rattle.std.proofs.lemmas.Bool.{cases_eq, ltb-true}
use Rattle.guards.specs.declared.entry.Entry.{Entry}
use Rattle.guards.specs.declared.entry.Entry.TheVariants.{Switch, Not, Both, Either}
use Rattle.guards.specs.Meaning.{Meaning, free, seen, says, on_in, modes, fresh}
use Rattle.guards.specs.Calls.{named, entry_says}
use Rattle.guards.proofs.Entries.{both_named}
use Rattle.guards.proofs.Bits.{seen-free}
use Rattle.guards.proofs.Rows.{row_at}
use Rattle.rowbook.specs.declared.RowBook.{RowBook}
use Rattle.rowbook.specs.RowBook.{of_rows}
use Rattle.rowbook.specs.Rows.{says_by}
use Rattle.rowbook.proofs.Stays.{holds_stay, says_stay, width, follows}

-- answers that are right for the guards below n
abbrev pub Right : List Bool → ℕ → Meaning → ℕ → Type 0
Right answers n b m = (j : ℕ) → j < n → slice_index_or answers j false ≡ says b j m

pub right_says : (answers : List Bool) (b : Meaning) (k l n : ℕ) (e : Entry) (m : ℕ) → b.holds ≡ replicate k free → Right answers n b m → named l n e ≡ true → says_by answers e m ≡ entry_says b e m
right_says answers b k l n (Switch s) m f r p = ap (on_in s) (sym (ap (λ hs. seen hs m) f ∙ seen-free k m))
right_says answers b k l n (Not g) m f r p = ap not (r g (ltb-true g n p))
right_says answers b k l n (Both g h) m f r p =
    let q = both_named g h n p in
    ap (λ y. y && slice_index_or answers h false) (r g q.0) ∙ ap (λ y. says b g m && y) (r h q.1)
right_says answers b k l n (Either g h) m f r p =
    let q = both_named g h n p in
    ap (λ y. y || slice_index_or answers h false) (r g q.0) ∙ ap (λ y. says b g m || y) (r h q.1)

module _ (x : RowBook) where
  always : (m : ℕ) → m < 2 ^ x.switches → says (of_rows x) 0 m ≡ true
  always m l = says_stay (fresh x.switches) x.entries.items 0 m (omega arith) ∙ row_at (2 ^ x.switches) (λ _. true) m l

  pub right_none : (y : Bool) (m : ℕ) → y ≡ true → m < modes (of_rows x) → Right (replicate 64 y) 1 (of_rows x) m
  right_none y m e l zero h = e ∙ sym (always m (rw (← width x) l))
  right_none y m e l (suc j) h = absurd (omega arith)

  -- the answer of one entry more
  pub right_more : (answers : List Bool) (i m : ℕ) (y : Bool) → length answers ≡ 64 → i < length x.entries.items → m < modes (of_rows x) → Right answers (i + 1) (of_rows x) m → y ≡ says_by answers (slice_index_or x.entries.items i (Switch 0)) m → Right (slice_set answers (i + 1) y) (i + 1 + 1) (of_rows x) m
  right_more answers i m y long l h r is j k =
      let few = x.room in
      let e = get_or x.entries.items i (Switch 0) in
      let b = of_rows x in
      let p = x.stands i l in
      let new : y ≡ says b (i + 1) m =
      is ∙ right_says answers b x.switches x.switches (i + 1) e m (holds_stay (fresh x.switches) x.entries.items) r p ∙
      sym (follows (fresh x.switches) x.entries.items x.switches i (i + 1) m l (rw (← width x) h) (omega arith) p) in
      ⊎_elim
      (λ (q : j ≡ i + 1). rw (q, get_or-set_same answers (i + 1) y false (omega arith)) new)
      (λ (q : j ≢ i + 1). rw (get_or-set_other answers (i + 1) j y false (omega arith)) (r j (omega arith)))
      (cases_eq j (i + 1))
