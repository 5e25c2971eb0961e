-- What entries leave as it was, and what each names and goes on saying. Assumes nothing.
use Rattle.std.proofs.Common.{◌≡◌, ℕ, zero, suc, ◌+◌, ◌<◌, ◌≤◌, true, false, not, ◌&&◌, ◌||◌, ◌≢◌, List, [], ◌∷◌, ◌++◌, length, get_or, slice_index_or, sym, refl, ap, ◌∙◌, ⊎_elim, arith}
use Rattle.std.proofs.lemmas.List.{length-append, get_or_append_left, get_or_push}
use Rattle.std.proofs.lemmas.Bool.{cases_eq, cases_lt, ltb-true, lt-ltb}
use Rattle.guards.specs.declared.entry.Entry.{Entry}
use Rattle.guards.specs.declared.entry.Entry.TheVariants.{Switch, Not, Both, Either}
use Rattle.guards.specs.Meaning.{Meaning, seen, says, on_in, row, modes, with_guard, fresh}
use Rattle.guards.specs.Calls.{named, entry_says}
use Rattle.guards.proofs.Entries.{both_named}
use Rattle.guards.proofs.Rows.{row_at, row-length}
use Rattle.rowbook.specs.declared.RowBook.{RowBook}
use Rattle.rowbook.specs.RowBook.{of_rows}
use Rattle.rowbook.specs.Rows.{with_all}
use Rattle.rowbook.specs.RowsLemmas.{one_more, stays}

pub switches_stay : (b : Meaning) (es : List Entry) → (with_all b es).switches ≡ b.switches
switches_stay b [] = refl
switches_stay b (e ∷ es) = switches_stay (with_guard b (entry_says b e)) es

pub holds_stay : (b : Meaning) (es : List Entry) → (with_all b es).holds ≡ b.holds
holds_stay b [] = refl
holds_stay b (e ∷ es) = holds_stay (with_guard b (entry_says b e)) es

pub guards_count : (b : Meaning) (es : List Entry) → length (with_all b es).guards ≡ length b.guards + length es
guards_count b [] = omega arith
guards_count b (e ∷ es) = guards_count (with_guard b (entry_says b e)) es ∙ omega (arith, one_more b (entry_says b e))

pub guards_stay : (b : Meaning) (es : List Entry) (g : ℕ) → g < length b.guards → slice_index_or (with_all b es).guards g [] ≡ slice_index_or b.guards g []
guards_stay b [] g l = refl
guards_stay b (e ∷ es) g l =
    let f = entry_says b e in
    guards_stay (with_guard b f) es g (omega (arith, one_more b f)) ∙ stays b f g l

pub says_stay : (b : Meaning) (es : List Entry) (g m : ℕ) → g < length b.guards → says (with_all b es) g m ≡ says b g m
says_stay b es g m l = ap (λ r. get_or r m false) (guards_stay b es g l)

pub with_all-append : (b : Meaning) (es fs : List Entry) → with_all b (es ++ fs) ≡ with_all (with_all b es) fs
with_all-append b [] fs = refl
with_all-append b (e ∷ es) fs = with_all-append (with_guard b (entry_says b e)) es fs

pub width : (x : RowBook) → (of_rows x).switches ≡ x.switches
width x = switches_stay (fresh x.switches) x.entries.items

pub count : (x : RowBook) → length (of_rows x).guards ≡ length x.entries.items + 1
count x = guards_count (fresh x.switches) x.entries.items ∙ omega arith

-- one entry more names what stands before it, as each entry does
pub stands_push : (k : ℕ) (es : List Entry) (e : Entry) → ((i : ℕ) → i < length es → named k (i + 1) (get_or es i (Switch 0)) ≡ true) → named k (length es + 1) e ≡ true → (i : ℕ) → i < length (es ++ e ∷ []) → named k (i + 1) (get_or (es ++ e ∷ []) i (Switch 0)) ≡ true
stands_push k es e stands p i l =
    ⊎_elim
    (λ (lt : i < length es). rw (get_or_append_left es (e ∷ []) (Switch 0) i lt) (stands i lt))
    (λ (ge : length es ≤ i).
    let at : length es ≡ i = omega (arith, length-append es (e ∷ [])) in
    rw (get_or_push es e (Switch 0) i at, ← at) p)
    (cases_lt i (length es))

-- an entry that names guards of b goes on saying what it says there
pub entry_stays : (b : Meaning) (es : List Entry) (k : ℕ) (e : Entry) (m : ℕ) → named k (length b.guards) e ≡ true → entry_says (with_all b es) e m ≡ entry_says b e m
entry_stays b es k (Switch s) m p = ap (λ hs. on_in s (seen hs m)) (holds_stay b es)
entry_stays b es k (Not g) m p = ap not (says_stay b es g m (ltb-true g (length b.guards) p))
entry_stays b es k (Both g h) m p =
    let q = both_named g h (length b.guards) p in
    ap (λ y. y && says (with_all b es) h m) (says_stay b es g m q.0) ∙ ap (λ y. says b g m && y) (says_stay b es h m q.1)
entry_stays b es k (Either g h) m p =
    let q = both_named g h (length b.guards) p in
    ap (λ y. y || says (with_all b es) h m) (says_stay b es g m q.0) ∙ ap (λ y. says b g m || y) (says_stay b es h m q.1)

-- the guard of entry i says what the entry says
pub follows : (b : Meaning) (es : List Entry) (k i g m : ℕ) → i < length es → m < modes b → g ≡ length b.guards + i → named k g (slice_index_or es i (Switch 0)) ≡ true → says (with_all b es) g m ≡ entry_says (with_all b es) (slice_index_or es i (Switch 0)) m
follows b [] k i g m l h a p = absurd (omega arith)
follows b (e ∷ es) k zero g m l h a p =
    let f = entry_says b e in
    let at : length b.guards ≡ g = omega arith in
    says_stay (with_guard b f) es g m (omega (arith, one_more b f)) ∙
    ap (λ r. get_or r m false) (get_or_push b.guards (row (modes b) f) [] g at) ∙
    row_at (modes b) f m h ∙
    sym (entry_stays b (e ∷ es) k e m (rw at p))
follows b (e ∷ es) k (suc i) g m l h a p =
    let f = entry_says b e in
    follows (with_guard b f) es k i g m (omega arith) h (omega (arith, one_more b f)) p

pub named_more : (k n k' n' : ℕ) (e : Entry) → k ≤ k' → n ≤ n' → named k n e ≡ true → named k' n' e ≡ true
named_more k n k' n' (Switch s) a b p = let q = ltb-true s k p in lt-ltb s k' (omega arith)
named_more k n k' n' (Not g) a b p = let q = ltb-true g n p in lt-ltb g n' (omega arith)
named_more k n k' n' (Both g h) a b p = let q = both_named g h n p in rw (lt-ltb g n' (omega arith), lt-ltb h n' (omega arith)) refl
named_more k n k' n' (Either g h) a b p = let q = both_named g h n p in rw (lt-ltb g n' (omega arith), lt-ltb h n' (omega arith)) refl

pub all_rows : (b : Meaning) (es : List Entry) → ((g : ℕ) → g < length b.guards → length (slice_index_or b.guards g []) ≡ modes b) → (g : ℕ) → g < length (with_all b es).guards → length (slice_index_or (with_all b es).guards g []) ≡ modes (with_all b es)
all_rows b [] whole g l = whole g l
all_rows b (e ∷ es) whole g l =
    let f = entry_says b e in
    all_rows (with_guard b f) es
    (λ j h.
    ⊎_elim
    (λ (q : j ≡ length b.guards). ap length (get_or_push b.guards (row (modes b) f) [] j (sym q)) ∙ row-length (modes b) f)
    (λ (q : j ≢ length b.guards).
    let lt : j < length b.guards = omega (arith, one_more b f) in
    ap length (get_or_append_left b.guards (row (modes b) f ∷ []) [] j lt) ∙ whole j lt)
    (cases_eq j (length b.guards)))
    g l

-- in a row book every kept entry names what any book of 16 switches and 64 guards has
pub within : (x : RowBook) (i : ℕ) → i < length x.entries.items → named 16 64 (slice_index_or x.entries.items i (Switch 0)) ≡ true
within x i l = named_more x.switches (i + 1) 16 64 (slice_index_or x.entries.items i (Switch 0)) x.few (omega (arith, x.room)) (x.stands i l)
