use Rattle.std.proofs.Common.{◌≡◌, ◌∷◌, length, sym, ap, ◌∙◌, arith}
use Rattle.sheetfile.specs.Format.{part_of}
use Rattle.sheetfile.specs.Reader.{rest_from}
use Rattle.sheetfile.proofs.Steps.{steps}
use Rattle.sheetfile.proofs.SheetFileIterator.next.Goals as goal

pub invariant_of-self : goal.invariant_of-self
invariant_of-self c = (steps _ _ _ _ c.self.invariant (omega arith) c.part-part.ensures c.number-self-inside.ensures).chain

pub returns : goal.returns
returns c =
    let f = c.self.inside.bytes.now in
    let n = c.self.inside.place in
    let q = c.number-self-inside.result in
    let s = steps f n q _ c.self.invariant (omega arith) c.part-part.ensures c.number-self-inside.ensures in
    let first : c.args.self.now.rest ≡ n ∷ rest_from f q = sym (ap (λ r. r.rest) c.self.view_is) ∙ s.first in
    record {
      steps = (ap (λ r. r.file) c.self.view_is, (first, c.part-part.ensures ∙ ap (λ r. part_of r.file n) c.self.view_is));
      goes = record { on = λ _. (tt, tt, omega (arith, ap length first)); keeps = tt; rests = λ _. tt };
    }
