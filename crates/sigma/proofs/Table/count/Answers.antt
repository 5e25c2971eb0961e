use Rattle.std.proofs.Common.{◌<◌, [], get_or, sym, refl, ap, ◌∙◌, rules}
use Rattle.sets.specs.Word.{member}
use Rattle.sets.proofs.Members.{member_below}
use Rattle.sigma.specs.Signature.{raised}
use Rattle.sigma.specs.Tables.{both_active}
use Rattle.sigma.proofs.Places.{joined_at, place_again}
use Rattle.sigma.proofs.Table.count.Goals as goal

pub returns-then-has-2 : goal.returns-then-has-2
returns-then-has-2 c =
    let t = c.args.self.now in
    let e = c.args.equation in
    let v = c.args.variable in
    let ae = sym c.if-has.ensures in
    let av = sym c.if-has-2.ensures in
    let le : e < 64 = member_below 64 t.equations e (search rules) ae in
    let lv : v < 64 = member_below 64 t.variables v (search rules) av in
    let new = joined_at t.across e v c.with.result (search rules) lv c.with.ensures in
    let row = t.whole_rows e [] (search rules) in
    record {
      rows = refl;
      columns = refl;
      places = place_again t.orders e v c.larger.result (search rules) (search rules) c.args.order (both_active t e v)
          (λ i j. member (get_or t.across i 0) j) _ (rw (ae, av) refl) new (c.larger.ensures ∙ ap (λ o. raised o c.args.order) c.place-standing.ensures);
    }
