use Rattle.std.proofs.Common.{◌≡◌, length, replicate, sym, refl, ◌∙◌}
use Rattle.std.proofs.lemmas.List.Elements.{All-replicate}
use Rattle.sigma.proofs.Places.{bare}
use Rattle.sigma.proofs.Table.new.Goals as goal

pub invariant_of-result : goal.invariant_of-result
invariant_of-result c = record {
  whole_across = refl;
  whole_down = refl;
  whole_orders = refl;
  whole_rows = All-replicate (λ row. length row ≡ 64) 64 (replicate 64 0) refl;
  agree = λ i j. bare 64 i j ∙ sym (bare 64 j i);
  within = λ i j. rw (bare 64 i j) refl;
}

pub returns : goal.returns
returns c = record { rows = refl; columns = refl; places = λ i j. rw (bare 64 i j) refl }
