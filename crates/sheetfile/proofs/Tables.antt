-- The table of letters. Assumes nothing.
use Rattle.std.proofs.Common.{◌≡◌, ℕ, true, cond, eqb, List, [], ◌∷◌, length, drop, Some, None, Option, sym, refl, ap, ◌∙◌, arith}
use Rattle.std.proofs.lemmas.Bool.{cond_both, eqb-true, and_parts}
use Rattle.std.proofs.lemmas.List.{drop_more, drop_all}
use Rattle.guards.specs.declared.entry.Entry.TheVariants.{Switch, Not, Both, Either}
use Rattle.sheet.specs.declared.call.Change.{Change}
use Rattle.sheet.specs.declared.call.Change.TheVariants.{Enter, Equation, Variable, Place, Strike, Assume}
use Rattle.sheetfile.specs.Format.{byte, call_of, chosen, zeros, unused}
use Rattle.sheetfile.specs.Judging.{opening, walked}
use Rattle.sheetfile.specs.Letters.{written, Table, HoistOpens}

-- as many zeros as there are bytes
noughts : List ℕ → List ℕ
noughts [] = []
noughts (x ∷ xs) = 0 ∷ noughts xs

all_zero : (xs : List ℕ) → zeros xs ≡ true → xs ≡ noughts xs
unfolding noughts
all_zero [] h = refl
all_zero (x ∷ xs) h =
    let p = and_parts (eqb x 0) (zeros xs) h in
    ap (λ y. y ∷ xs) (eqb-true x 0 p.0) ∙ ap (λ ys. 0 ∷ ys) (all_zero xs p.1)

differ : {A : Type 0} (x : A) → None ≡ Some x → ⊥
differ x q = let z : ◌≡◌ {A = ℕ} 0 1 = cc in omega arith

-- one row of the table: the letter t, the operands that are used, the bytes that are not, and the call
row : (l t : ℕ) (k : List ℕ → List ℕ) (xs : List ℕ) (c x : Change) (others : Option Change)
    → t ∷ k (noughts xs) ≡ written c → (others ≡ Some x → l ∷ k xs ≡ written x)
    → cond (eqb l t) (unused xs c) others ≡ Some x → l ∷ k xs ≡ written x
row l t k xs c x others w rest = cond_both (eqb l t) _ others (λ o. o ≡ Some x → l ∷ k xs ≡ written x)
    (λ a. cond_both (zeros xs) (Some c) None (λ o. o ≡ Some x → l ∷ k xs ≡ written x)
    (λ z q. let s : c ≡ x = cc in ap (λ y. y ∷ k xs) (eqb-true l t a) ∙ ap (λ ys. t ∷ k ys) (all_zero xs z) ∙ w ∙ ap written s)
    (λ _ q. absurd (differ x q)))
    (λ _. rest)

chosen_reads : (l a b c d e : ℕ) (x : Change) → chosen l a b c d e ≡ Some x → l ∷ a ∷ b ∷ c ∷ d ∷ e ∷ [] ≡ written x
unfolding noughts
chosen_reads l a b c d e x =
    row l 83 (λ xs. a ∷ xs) (b ∷ c ∷ d ∷ e ∷ []) (Enter (Switch a)) x _ refl (
    row l 78 (λ xs. a ∷ xs) (b ∷ c ∷ d ∷ e ∷ []) (Enter (Not a)) x _ refl (
    row l 66 (λ xs. a ∷ b ∷ xs) (c ∷ d ∷ e ∷ []) (Enter (Both a b)) x _ refl (
    row l 69 (λ xs. a ∷ b ∷ xs) (c ∷ d ∷ e ∷ []) (Enter (Either a b)) x _ refl (
    row l 81 (λ xs. a ∷ b ∷ xs) (c ∷ d ∷ e ∷ []) (Equation a b) x _ refl (
    row l 86 (λ xs. a ∷ b ∷ xs) (c ∷ d ∷ e ∷ []) (Variable a b) x _ refl (
    row l 79 (λ xs. a ∷ b ∷ c ∷ d ∷ xs) (e ∷ []) (Place a b c d) x _ refl (
    row l 65 (λ xs. a ∷ xs) (b ∷ c ∷ d ∷ e ∷ []) (Assume a) x _ refl (λ q. absurd (differ x q)))))))))

six : (p : List ℕ) → length p ≡ 8 → drop 2 p ≡ byte p 2 ∷ byte p 3 ∷ byte p 4 ∷ byte p 5 ∷ byte p 6 ∷ byte p 7 ∷ []
six p h =
    drop_more p 2 0 (omega arith)
    ∙ ap (λ xs. byte p 2 ∷ xs) (drop_more p 3 0 (omega arith)
    ∙ ap (λ xs. byte p 3 ∷ xs) (drop_more p 4 0 (omega arith)
    ∙ ap (λ xs. byte p 4 ∷ xs) (drop_more p 5 0 (omega arith)
    ∙ ap (λ xs. byte p 5 ∷ xs) (drop_more p 6 0 (omega arith)
    ∙ ap (λ xs. byte p 6 ∷ xs) (drop_more p 7 0 (omega arith)
    ∙ ap (λ xs. byte p 7 ∷ xs) (drop_all 8 p (omega arith)))))))

reads : (p : List ℕ) (c : Change) → call_of p ≡ Some c → (length p ≡ 8) × (drop 2 p ≡ written c)
reads p c = cond_both (eqb (length p) 8) _ None (λ o. o ≡ Some c → (length p ≡ 8) × (drop 2 p ≡ written c))
    (λ t q. let h = eqb-true (length p) 8 t in (h, six p h ∙ chosen_reads (byte p 2) (byte p 3) (byte p 4) (byte p 5) (byte p 6) (byte p 7) c q))
    (λ _ q. absurd (differ c q))

says_six : (x0 x1 : ℕ) (c : Change) → length (written c) ≡ 6 → call_of (x0 ∷ x1 ∷ written c) ≡ Some c
says_six x0 x1 (Enter (Switch a)) h = refl
says_six x0 x1 (Enter (Not a)) h = refl
says_six x0 x1 (Enter (Both a b)) h = refl
says_six x0 x1 (Enter (Either a b)) h = refl
says_six x0 x1 (Equation a b) h = refl
says_six x0 x1 (Variable a b) h = refl
says_six x0 x1 (Place a b c d) h = refl
says_six x0 x1 (Assume a) h = refl
says_six x0 x1 (Strike a b c) h = absurd (omega arith)

says : (p : List ℕ) (c : Change) → length p ≡ 8 → drop 2 p ≡ written c → call_of p ≡ Some c
says [] c h e = absurd (omega arith)
says (x0 ∷ []) c h e = absurd (omega arith)
says (x0 ∷ x1 ∷ xs) c h e =
    let n : length xs ≡ 6 = omega arith in
    ap (λ ys. call_of (x0 ∷ x1 ∷ ys)) e ∙ says_six x0 x1 c (ap length (sym e) ∙ n)

pub table : Table
table = record { reads = reads; says = says }

pub hoist_opens : HoistOpens
unfolding opening walked
hoist_opens = refl
