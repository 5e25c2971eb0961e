use Rattle.std.proofs.Common.{arith}
use Rattle.std.proofs.lemmas.Nat.{one_shl}
use Rattle.std.proofs.lemmas.Bool.{lt-ltb}
use Rattle.sets.proofs.Members.{member-bit_or}
use Rattle.sets.proofs.with.Goals as goal

pub returns-then-i-lt64 : goal.returns-then-i-lt64
returns-then-i-lt64 c = λ k. rw (one_shl c.args.i 64 (omega arith), lt-ltb c.args.i 64 (omega arith)) (member-bit_or c.args.word c.args.i k)
