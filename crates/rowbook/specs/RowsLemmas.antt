-- Laws of a book of kept entries. Assumes nothing.
use Rattle.std.specs.Prelude.{◌≡◌, ℕ, zero, suc, ◌+◌, ◌^◌, ◌<◌, ◌≤◌, Bool, true, false, List, [], ◌∷◌, length, get_or, slice_index_or}
use Rattle.std.proofs.Common.{sym, ap, ◌∙◌, ⊎_elim, arith}
use Rattle.std.proofs.lemmas.List.{length-append, length-replicate, get_or_append_left, get_or_push}
use Rattle.std.proofs.lemmas.Bool.{cases_lt}
use Rattle.guards.specs.declared.entry.Entry.{Entry}
use Rattle.guards.specs.Meaning.{Meaning, Sound, free, row, modes, with_guard, fresh}
use Rattle.guards.specs.Calls.{entry_says}
use Rattle.guards.proofs.Rows.{row_at, row-length}
use Rattle.rowbook.specs.Rows.{with_all}

module _ (b : Meaning) (f : ℕ → Bool) where
  pub one_more : length (with_guard b f).guards ≡ length b.guards + 1
  one_more = length-append b.guards (row (modes b) f ∷ [])

  -- the guards that stand stay as they are
  pub stays : (g : ℕ) → g < length b.guards → slice_index_or (with_guard b f).guards g [] ≡ slice_index_or b.guards g []
  stays g l = get_or_append_left b.guards (row (modes b) f ∷ []) [] g l

  new_row : (g : ℕ) → g ≡ length b.guards → slice_index_or (with_guard b f).guards g [] ≡ row (modes b) f
  new_row g e = get_or_push b.guards (row (modes b) f) [] g (sym e)

  with_sound : (most : ℕ) → length b.guards < 64 → Sound most b → Sound most (with_guard b f)
  with_sound most l x = record {
    few = x.few;
    one_each = x.one_each;
    some = omega (arith, one_more);
    room = omega (arith, one_more);
    rows = λ g h.
        ⊎_elim
        (λ (lt : g < length b.guards). ap length (stays g lt) ∙ x.rows g lt)
        (λ (ge : length b.guards ≤ g). ap length (new_row g (omega (arith, one_more))) ∙ row-length (modes b) f)
        (cases_lt g (length b.guards));
    always = λ m h. ap (λ r. get_or r m false) (stays 0 x.some) ∙ x.always m h;
  }

fresh_sound : (most k : ℕ) → k ≤ most → Sound most (fresh k)
fresh_sound most k h = record {
  few = h;
  one_each = length-replicate k free;
  some = omega arith;
  room = omega arith;
  rows = first;
  always = λ m l. row_at (2 ^ k) (λ _. true) m l;
}
  where
    first : (g : ℕ) → g < 1 → length (slice_index_or (fresh k).guards g []) ≡ 2 ^ k
    first zero l = row-length (2 ^ k) (λ _. true)
    first (suc g) l = absurd (omega arith)

all_sound : (most : ℕ) (b : Meaning) (es : List Entry) → length b.guards + length es ≤ 64 → Sound most b → Sound most (with_all b es)
all_sound most b [] l x = x
all_sound most b (e ∷ es) l x =
    let f = entry_says b e in
    all_sound most (with_guard b f) es (omega (arith, one_more b f)) (with_sound b f most (omega arith) x)

pub rows_sound : (k : ℕ) (es : List Entry) → k ≤ 16 → length es ≤ 63 → Sound 16 (with_all (fresh k) es)
rows_sound k es few room = all_sound 16 (fresh k) es (omega arith) (fresh_sound 16 k few)
