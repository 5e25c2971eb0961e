use Rattle.std.proofs.Common.{◌≡◌, ℕ, ltb, get_or, ◌&&◌}
use Rattle.guards.specs.Meaning.{says}
use Rattle.sets.specs.Word.{member}
use Rattle.reading.proofs.Setting.active.Given as goal

abbrev pub invariant-loop-k : goal.invariant-loop-k
invariant-loop-k g l =
    (j : ℕ) → member l.set j ≡ (ltb j 64 && (ltb j l.k && says (g.B.GuardBook.meaning l.self.book.now) (get_or l.guards j 0) l.self.mode))
