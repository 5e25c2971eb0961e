use Rattle.sheetfile.proofs.Steps.{lent}
use Rattle.sheetfile.proofs.part.Goals as goal

pub returns : goal.returns
returns c = lent c.args.bytes.now c.args.number
