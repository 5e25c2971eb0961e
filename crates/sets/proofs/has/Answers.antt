use Rattle.std.proofs.Common.{◌/◌, ◌^◌, eqb, sym, ap, ◌∙◌, arith}
use lib.Bits.{and_mask}
use Rattle.std.proofs.lemmas.Bool.{le-ltb}
use Rattle.sets.specs.Word.{member}
use Rattle.sets.proofs.Members.{member_past}
use Rattle.sets.proofs.has.Goals as goal

pub returns-then-i-lt64 : goal.returns-then-i-lt64
unfolding member
returns-then-i-lt64 c = ap (λ x. eqb x 1) (and_mask (c.args.word / 2 ^ c.args.i) 1)

pub returns-else-i-lt64 : goal.returns-else-i-lt64
returns-else-i-lt64 c = le-ltb c.args.i 64 (omega arith) ∙ sym (member_past 64 c.args.word c.args.i (omega arith) (omega arith))
