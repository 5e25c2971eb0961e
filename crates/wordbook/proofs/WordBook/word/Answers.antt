use Rattle.std.proofs.Common.{length, get_or, sym, ap, ◌∙◌, arith}
use Rattle.std.proofs.lemmas.Bool.{ltb-true}
use Rattle.sets.proofs.Bits.{bit-bit_and, bit-bit_or, bit_not}
use Rattle.guards.specs.Meaning.{on_in}
use Rattle.guards.proofs.Bits.{seen-free}
use Rattle.guards.proofs.Entries.{both_named}
use Rattle.wordbook.specs.WordBook.{of_words}
use Rattle.wordbook.specs.WordsLemmas.{below_64, word_says}
use Rattle.wordbook.proofs.Switches.{switch_rule}
use Rattle.wordbook.proofs.WordBook.word.Goals as goal

pub returns-in-Switch : goal.returns-in-Switch
returns-in-Switch c = λ m b.
    let x = c.args.self.now in
    let s = c.in-Switch.s in
    let l = ltb-true s x.switches (rw c.in-Switch.is at c.requires) in
    rw c.in-Switch.is (switch_rule s (omega arith) m (below_64 x.switches m x.few b) ∙ ap (on_in s) (sym (seen-free x.switches m)))

pub returns-in-Not : goal.returns-in-Not
returns-in-Not c = λ m b.
    let x = c.args.self.now in
    let g = c.in-Not.g in
    let l = ltb-true g (length (of_words x).guards) (rw c.in-Not.is at c.requires) in
    rw (c.in-Not.is, word_says x.switches x.words.items g m l b, ← c.deref.ensures.0)
    (bit_not 64 m (get_or c.deref.result.now g 0) (below_64 x.switches m x.few b) (omega arith))

pub returns-in-Both : goal.returns-in-Both
returns-in-Both c = λ m b.
    let x = c.args.self.now in
    let g = c.in-Both.g in
    let h = c.in-Both.h in
    let l = both_named g h (length (of_words x).guards) (rw c.in-Both.is at c.requires) in
    rw (c.in-Both.is, word_says x.switches x.words.items g m l.0 b, word_says x.switches x.words.items h m l.1 b, c.deref-in-Both.ensures.0, c.deref-in-Both-2.ensures.0)
    (bit-bit_and m (get_or x.words.items g 0) (get_or x.words.items h 0))

pub returns-in-Either : goal.returns-in-Either
returns-in-Either c = λ m b.
    let x = c.args.self.now in
    let g = c.in-Either.g in
    let h = c.in-Either.h in
    let l = both_named g h (length (of_words x).guards) (rw c.in-Either.is at c.requires) in
    rw (c.in-Either.is, word_says x.switches x.words.items g m l.0 b, word_says x.switches x.words.items h m l.1 b, c.deref-in-Either.ensures.0, c.deref-in-Either-2.ensures.0)
    (bit-bit_or m (get_or x.words.items g 0) (get_or x.words.items h 0))
