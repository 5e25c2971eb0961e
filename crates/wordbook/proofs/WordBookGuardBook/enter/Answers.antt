use Rattle.std.proofs.Common.{refl}
use Rattle.guards.specs.Calls.{entry_says}
use Rattle.guards.proofs.Entries.{entered}
use Rattle.wordbook.specs.WordBook.{of_words}
use Rattle.wordbook.proofs.Words.{pushed}
use Rattle.wordbook.proofs.WordBookGuardBook.enter.Goals as goal

pub returns : goal.returns
returns c =
    let x = c.args.self.now in
    let b = of_words x in
    entered b _ _ refl refl c.args.entry c.in_ok-guard.guard _ c.in_ok-guard.ensures
    (rw c.push.ensures.items (pushed x.switches c.word-word.result x.words.items (entry_says b c.args.entry) c.word-word.ensures))
