use Rattle.std.proofs.Common.{take, ◌∙◌, arith}
use Rattle.std.proofs.lemmas.Grind.{common_steps}
use Rattle.std.proofs.lemmas.List.{length-take, take_all}
use Rattle.reading.proofs.Tables.{signature_of-table}
use Rattle.reading.proofs.Setting.signature.Goals as goal

pub loop-occurrence-preserved : goal.loop-occurrence-preserved
loop-occurrence-preserved g c =
    let before = c.loop-occurrence.invariant in
    let step = c.weigh.ensures in
    record {
      rows = step.rows ∙ before.rows;
      columns = step.columns ∙ before.columns;
      places = λ i j. let s = step.places i j in let b = before.places i j in grind (arith, common_steps);
    }

pub returns : goal.returns
returns g c =
    let es = take 64 c.args.equations.now in
    let vs = take 64 c.args.variables.now in
    let os = c.args.occurrences.now in
    let made = c.new-table.ensures in
    let filled = rw (made.rows, made.columns, take_all c.loop-occurrence.occurrence-index os (omega arith)) at c.loop-occurrence.invariant in
    signature_of-table (g.B.GuardBook.meaning c.args.self.now.book.now) es vs os c.args.self.now.mode c.active.result c.active-2.result c.loop-occurrence.table
    (omega (arith, length-take 64 c.args.equations.now)) (omega (arith, length-take 64 c.args.variables.now)) c.active.ensures c.active-2.ensures filled
