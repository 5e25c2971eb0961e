use Rattle.std.proofs.Common.{sym, ap, ◌∙◌, arith}
use Rattle.sheetfile.specs.Format.{pair, sound}
use Rattle.sheetfile.specs.Opening.{beyond, by_header, by_record, faulty, never}
use Rattle.sheetfile.proofs.Walks.{way_none, way_more, way_zero, way_all}
use Rattle.sheetfile.proofs.Judges.{unique, starts}
use Rattle.sheetfile.proofs.walk.Goals as goal

pub returns-then-first-records : goal.returns-then-first-records
returns-then-first-records c = sym (unique _ _ (beyond 0 c.requires.whole c.requires.headed (by_header (omega arith))))

pub loop-init : goal.loop-init
loop-init c = (way_none _ _ c.number-first.ensures, omega arith)

pub returns-then-at-eq0 : goal.returns-then-at-eq0
returns-then-at-eq0 c = starts _ _ c.requires.whole c.requires.headed c.number-first.ensures (way_zero _ c.loop.counter c.loop.at c.loop.invariant.0 (omega arith))

pub returns-then-next-records : goal.returns-then-next-records
returns-then-next-records c =
    let e = c.number-next.ensures ∙ ap pair c.part-part.ensures in
    sym (unique _ _ (beyond _ c.requires.whole c.requires.headed (by_record _ c.loop.invariant.0.named (omega arith) (omega arith) (omega arith))))

pub returns-then-not-is_sound : goal.returns-then-not-is_sound
returns-then-not-is_sound c =
    let p = c.part-part.ensures in
    let e = c.number-next.ensures ∙ ap pair p in
    sym (unique _ _ (faulty _ c.requires.whole c.requires.headed (record {
      met = c.loop.invariant.0.named;
      some = omega arith;
      within = omega arith;
      onward = omega arith;
      silent = sym (ap sound p) ∙ sym c.if-not-is_sound.ensures.says;
    })))

pub loop-preserved : goal.loop-preserved
loop-preserved c =
    let f = c.args.bytes.now in
    let n = c.loop.at in
    let p = c.part-part.ensures in (
      way_more f c.loop.counter n _ c.loop.invariant.0
          (record { some = omega arith; within = omega arith; asks = sym (ap sound p) ∙ sym c.if-not-is_sound.ensures.says })
          (c.number-next.ensures ∙ ap pair p),
      omega arith,
    )

pub returns : goal.returns
returns c = sym (unique _ _ (never c.requires.whole c.requires.headed (way_all _ c.loop.counter c.loop.at c.loop.invariant.0 (omega arith))))
