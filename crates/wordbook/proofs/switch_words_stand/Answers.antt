use Rattle.wordbook.proofs.Switches.{switch_rule}
use Rattle.wordbook.proofs.switch_words_stand.Goals as goal

pub returns : goal.returns
returns c = switch_rule
