use Rattle.std.proofs.Common.{ℕ, ◌<◌, List, ◌≡◌, length, take, sym, refl, ap, ◌∙◌, arith, length-set}
use Rattle.std.proofs.lemmas.List.{length-take-le, get_or-take}
use Rattle.guards.specs.declared.entry.Entry.{Entry}
use Rattle.guards.specs.declared.entry.Entry.TheVariants.{Switch}
use Rattle.rowbook.specs.declared.RowBook.{RowBook}
use Rattle.rowbook.specs.RowBook.{of_rows}
use Rattle.rowbook.specs.Rows.{says_by}
use Rattle.rowbook.proofs.Stays.{count}
use Rattle.rowbook.proofs.Passes.{right_none, right_more}
use Rattle.rowbook.proofs.RowBook.answer.Goals as goal

before : (x : RowBook) (g : ℕ) (es : List Entry) → es ≡ x.entries.items → g < length (of_rows x).guards → length (take g es) ≡ g
before x g es e l = rw e (length-take-le g x.entries.items (omega (arith, count x)))

pub slice_bounds-entry-items-end : goal.slice_bounds-entry-items-end
slice_bounds-entry-items-end c = sym (before c.args.self.now c.args.guard _ c.deref.ensures.0 c.requires.stands)

pub loop-i-init : goal.loop-i-init
loop-i-init c = (refl, right_none c.args.self.now _ c.args.mode refl c.requires.in_modes)

pub loop-i-preserved : goal.loop-i-preserved
loop-i-preserved c =
    let x = c.args.self.now in
    let i = c.loop-i.i in
    let t = before x c.args.guard _ c.deref.ensures.0 c.requires.stands in
    let l : i < c.args.guard = omega arith in
    let n = count x in (
      simp length-set c.loop-i.invariant.0,
      right_more x c.loop-i.answers i c.args.mode c.worked.result c.loop-i.invariant.0 (omega arith) c.requires.in_modes c.loop-i.invariant.1
          (c.worked.ensures ∙ ap (λ e. says_by c.loop-i.answers e c.args.mode) (rw c.deref.ensures.0 (get_or-take c.args.guard x.entries.items i (Switch 0) l))),
    )

pub bounds-answers-guard : goal.bounds-answers-guard
bounds-answers-guard c = let n = count c.args.self.now in omega (arith, c.args.self.now.room)

pub returns : goal.returns
returns c =
    let t = before c.args.self.now c.args.guard _ c.deref.ensures.0 c.requires.stands in
    c.loop-i.invariant.1 c.args.guard (omega arith)
