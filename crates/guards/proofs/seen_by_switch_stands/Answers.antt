use Rattle.guards.proofs.Bits.{seen_by_switch}
use Rattle.guards.proofs.seen_by_switch_stands.Goals as goal

pub returns : goal.returns
returns c = seen_by_switch
