use Rattle.faults.proofs.Apart.{told_apart}
use Rattle.faults.proofs.told_apart_stands.Goals as goal

pub returns : goal.returns
returns c = told_apart
