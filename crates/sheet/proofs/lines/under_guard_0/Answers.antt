use Rattle.std.proofs.Common.{take, ap, ◌∙◌}
use Rattle.std.proofs.lemmas.List.{take-replicate}
use Rattle.sheet.proofs.lines.under_guard_0.Goals as goal

pub returns : goal.returns
returns c = c.truncate.ensures.items ∙ ap (take c.args.count) c.from-guards.ensures.0 ∙ take-replicate c.args.count 64 0 c.requires
