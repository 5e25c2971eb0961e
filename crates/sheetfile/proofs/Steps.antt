-- One step along a chain. Assumes nothing.
use Rattle.std.proofs.Common.{◌≡◌, ℕ, ◌+◌, ◌-◌, ◌*◌, ◌≤◌, List, ◌∷◌, take, drop, sym, ap, ◌∙◌, subst, arith}
use Rattle.sheetfile.specs.Format.{count_of, pair, part_of, next_of}
use Rattle.sheetfile.specs.Opening.{Chain, done, link}
use Rattle.sheetfile.specs.Reader.{rest_from}
use Rattle.sheetfile.proofs.Judges.{rest_is}

-- from the number n of a record, that record comes next, and then what comes from q
pub record Steps (f : List ℕ) (n q : ℕ) : Type 0 where
  pub within : n ≤ count_of f
  pub first : rest_from f n ≡ n ∷ rest_from f q
  pub chain : Chain f q (rest_from f q)

along : (f : List ℕ) (n q : ℕ) (ns : List ℕ) → Chain f n ns → 1 ≤ n → q ≡ next_of f n → Steps f n q
along f n q ns done some e = absurd (omega arith)
along f n q ns (link m ms l k) some e =
    let k' : Chain f q ms = subst (λ x. Chain f x ms) (sym e) k in
    let r = rest_is f q ms k' in
    record {
      within = l.within;
      first = rest_is f m (m ∷ ms) (link m ms l k) ∙ ap (λ xs. m ∷ xs) (sym r);
      chain = subst (Chain f q) (sym r) k';
    }

pub steps : (f : List ℕ) (n q : ℕ) (part : List ℕ) → Chain f n (rest_from f n) → 1 ≤ n → part ≡ part_of f n → q ≡ pair part → Steps f n q
steps f n q part c some p e = along f n q (rest_from f n) c some (e ∙ ap pair p)

-- the part of a file that the code lends
pub lent : (f : List ℕ) (n : ℕ) → take ((8 * n + 8) - 8 * n) (drop (8 * n) f) ≡ part_of f n
lent f n = let e : (8 * n + 8) - 8 * n ≡ 8 = omega arith in ap (λ k. take k (drop (8 * n) f)) e
