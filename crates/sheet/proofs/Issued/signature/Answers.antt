use Rattle.std.proofs.Common.{◌≡◌, Ok, sym, ap, ◌∙◌, subst, rules}
use Rattle.sigma.specs.Tables.{signature_of}
use Rattle.sheet.specs.Lines.{of_lines}
use Rattle.sheet.specs.Signatures.{signed}
use Rattle.sheet.proofs.Readings.{signed_is}
use Rattle.sheet.proofs.Issued.signature.Goals as goal

pub returns : goal.returns
returns g c =
    let x = c.self-2.inside in
    let s = signature_of c.signature.result in
    let is : Ok s ≡ signed c.args.self.now c.args.mode = subst (λ l. Ok s ≡ signed l c.args.mode) (c.self-2.view_is ∙ c.self.view_is)
    (signed_is (of_lines (g.B.GuardBook.meaning x.book) x.lines) c.args.mode s _ _ _ (search rules) c.if-not-says.ensures c.deref.ensures c.deref-2.ensures c.deref-3.ensures.0 c.signature.ensures) in
    record { given = is; past = λ p q. is ∙ ap (λ l. signed l c.args.mode) (sym q) }
