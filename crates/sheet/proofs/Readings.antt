-- The signature of a mode, from what a sheet lends. Assumes nothing.
use Rattle.std.proofs.Common.{◌≡◌, ℕ, ◌<◌, ◌≤◌, true, List, length, take, Ok, sym, refl, ap, ◌∙◌, ap₂}
use Rattle.std.proofs.lemmas.List.{take_all}
use Rattle.std.proofs.lemmas.Bool.{lt-ltb}
use Rattle.guards.specs.Meaning.{modes}
use Rattle.sigma.specs.Signature.{Signature}
use Rattle.reading.specs.declared.occurrence.Occurrence.{Occurrence}
use Rattle.reading.specs.Signatures.{signature_by}
use Rattle.sheet.specs.Ledger.{Ledger}
use Rattle.sheet.specs.Signatures.{allowed, signed}

pub signed_is : (l : Ledger) (m : ℕ) (s : Signature) (es vs : List ℕ) (os : List Occurrence) → m < modes l.book → true ≡ allowed l m →
    (es ≡ l.equations) × (length es ≤ 64) → (vs ≡ l.variables) × (length vs ≤ 64) → os ≡ l.occurrences →
    s ≡ signature_by l.book (take 64 es) (take 64 vs) os m → Ok s ≡ signed l m
signed_is l m s es vs os h a e v o i =
    ap Ok (i ∙ ap₂ (λ xs ys. signature_by l.book xs ys os m) (take_all 64 es e.1 ∙ e.0) (take_all 64 vs v.1 ∙ v.0) ∙ ap (λ xs. signature_by l.book l.equations l.variables xs m) o) ∙
    sym (rw (lt-ltb m (modes l.book) h, sym a) refl)
