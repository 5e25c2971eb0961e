use Rattle.std.proofs.Common.{ap, ◌∙◌, rules}
use Rattle.guards.specs.Meaning.{fresh}
use Rattle.wordbook.proofs.Words.{fresh_is}
use Rattle.wordbook.proofs.WordBook.new.Goals as goal

pub returns : goal.returns
returns c =
    let k = c.switches_made.result in
    rw (c.push.ensures.items, c.new-words.ensures) (fresh_is k (rw c.switches_made.ensures (search rules)) ∙ ap fresh c.switches_made.ensures)
