use Rattle.std.proofs.Common.{take}
use Rattle.sets.specs.Word.{member}
use Rattle.sigma.specs.Tables.{IsTableOf}
use Rattle.reading.specs.Signatures.{counts, largest}
use Rattle.reading.proofs.Setting.signature.Given as goal

abbrev pub invariant-loop-occurrence : goal.invariant-loop-occurrence
invariant-loop-occurrence g l =
    let e = l.initial.table.equations in
    let v = l.initial.table.variables in
    IsTableOf e v (largest (counts (g.B.GuardBook.meaning l.self.book.now) l.self.mode (member e) (member v)) (take l.occurrence-index l.occurrences)) l.table
