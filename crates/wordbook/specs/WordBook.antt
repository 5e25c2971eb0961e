-- What a word book means. Assumes nothing.
use Rattle.guards.specs.Meaning.{Meaning}
use Rattle.wordbook.specs.declared.WordBook.{WordBook}
use Rattle.wordbook.specs.Words.{words_mean}

abbrev pub of_words : WordBook → Meaning
of_words x = words_mean x.switches x.words.items
