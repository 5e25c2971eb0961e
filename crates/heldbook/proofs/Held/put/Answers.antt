use Rattle.std.proofs.Common.{◌<◌, arith}
use Rattle.std.proofs.lemmas.Bool.{lt-ltb}
use Rattle.std.proofs.lemmas.Nat.{one_shl}
use Rattle.heldbook.proofs.Put.{put_on, put_off}
use Rattle.heldbook.proofs.Held.put.Goals as goal

pub returns-then-on : goal.returns-then-on
returns-then-on g c =
    let b = c.self.inside.below in
    let s = c.in-Some.switch in
    let l = c.self.invariant _ c.in-Some.is in
    let w : s < 64 = omega (arith, l, (g.met.B.GuardBook.sound b).few, g.met.B.GuardBook.most_bound) in
    rw (← c.self.view_is, c.in-Some.is, c.if-on.true, lt-ltb s (g.B.GuardBook.meaning b).switches l, one_shl s 64 w) (put_on s c.args.mode)

pub returns-else-on : goal.returns-else-on
returns-else-on g c =
    let b = c.self.inside.below in
    let s = c.in-Some.switch in
    let l = c.self.invariant _ c.in-Some.is in
    let w : s < 64 = omega (arith, l, (g.met.B.GuardBook.sound b).few, g.met.B.GuardBook.most_bound) in
    rw (← c.self.view_is, c.in-Some.is, c.if-on.false, lt-ltb s (g.B.GuardBook.meaning b).switches l, one_shl s 64 w) (put_off 64 s c.args.mode w (omega arith))
