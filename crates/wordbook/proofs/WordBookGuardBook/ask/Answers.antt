use Rattle.std.proofs.Common.{sym, refl}
use Rattle.sets.specs.Word.{member}
use Rattle.guards.proofs.Entries.{stands, answered}
use Rattle.wordbook.specs.WordBook.{of_words}
use Rattle.wordbook.specs.WordsLemmas.{word_says}
use Rattle.wordbook.proofs.WordBookGuardBook.ask.Goals as goal

pub returns : goal.returns
unfolding member
returns c =
    let x = c.args.self.now in
    let f = stands (of_words x) c.args.guard c.args.mode c.in_ok-admit_question.ensures in
    answered (of_words x) _ _ refl refl c.args.guard c.args.mode c.has.result f.guard f.mode
    (rw (c.has.ensures, c.deref.ensures.0) (sym (word_says x.switches x.words.items c.args.guard c.args.mode f.guard f.mode)))
