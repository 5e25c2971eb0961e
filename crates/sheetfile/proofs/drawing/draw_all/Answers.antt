use Rattle.std.proofs.Common.{ap, ◌∙◌}
use Rattle.std.proofs.lemmas.Result.{err_from_is_err_and}
use Rattle.sheetfile.specs.Format.{part_of}
use Rattle.sheetfile.proofs.Draws.{drawn_end, drawn_more, drawn_stop}
use Rattle.sheetfile.proofs.drawing.draw_all.Goals as goal

pub loop-number-preserved : goal.loop-number-preserved
loop-number-preserved g c =
    let i = c.loop-number.invariant in
    let s = c.in-Some.ensures.steps in
    record {
      same = s.0 ∙ i.same;
      left = drawn_more _ _ _ _ _ _ _ _ s.1.0 (s.1.1 ∙ ap (λ f. part_of f c.in-Some.number) i.same) i.left c.in_ok-draw.ensures;
    }

pub returns-in_err-draw : goal.returns-in_err-draw
returns-in_err-draw g c =
    let i = c.loop-number.invariant in
    let s = c.in-Some.ensures.steps in
    let e = err_from_is_err_and c.from_residual.result c.from_residual.ensures.1 in
    rw (e.1, e.2) (drawn_stop _ _ _ _ _ _ _ _ s.1.0 (s.1.1 ∙ ap (λ f. part_of f c.in-Some.number) i.same) i.left _ c.in_err-draw.ensures)

pub returns : goal.returns
returns g c = drawn_end _ _ _ _ c.in-None.ensures.steps.1.0 c.loop-number.invariant.left
