-- Drawing the records of a file in turn. Assumes nothing.
use Rattle.std.proofs.Common.{◌≡◌, ℕ, List, [], ◌∷◌, Ok, Err, Result, sym, ap, ◌∙◌, ap₂}
use Rattle.sheet.specs.Ledger.{Ledger}
use Rattle.sheetfile.specs.declared.fault.FileFault.{FileFault}
use Rattle.sheetfile.specs.Format.{part_of, call_of}
use Rattle.sheetfile.specs.Drawn.{Draws, Drawing, drawn, drawn_ledger, onward, told_met, all_drawn}

module _ (f : List ℕ) (l : Ledger) (whole : Drawing) where
  -- nothing is left to draw
  pub drawn_end : (ns : List ℕ) → ns ≡ [] → all_drawn l f ns ≡ whole → record { answer = Ok tt; left = l } ≡ whole
  unfolding all_drawn
  drawn_end ns e a = ap (all_drawn l f) (sym e) ∙ a

  module _ (n : ℕ) (part ms ns : List ℕ) (x : Ledger) (first : ns ≡ n ∷ ms) (lent : part ≡ part_of f n) (a : all_drawn l f ns ≡ whole) where
    one : (r : Result (Unit {0}) FileFault) → Draws l n part r x → onward (record { answer = told_met r; left = x }) (all_drawn x f ms) ≡ whole
    unfolding all_drawn
    one r d =
        let c = ap call_of lent in
        let g : drawn l n (call_of (part_of f n)) ≡ told_met r = sym (d.given ∙ ap (drawn l n) c) in
        let y : drawn_ledger l (call_of (part_of f n)) ≡ x = sym (d.left ∙ ap (drawn_ledger l) c) in
        sym (ap₂ (λ b z. onward (record { answer = b; left = z }) (all_drawn z f ms)) g y) ∙ ap (all_drawn l f) (sym first) ∙ a

    pub drawn_more : Draws l n part (Ok tt) x → all_drawn x f ms ≡ whole
    drawn_more d = one (Ok tt) d

    pub drawn_stop : (e : FileFault) → Draws l n part (Err e) x → record { answer = told_met (Err e); left = x } ≡ whole
    drawn_stop e d = one (Err e) d
