use Rattle.std.proofs.Common.{ℕ, ◌∙◌, ap, ◌∷◌, ◌++◌, [], take}
use Rattle.heap_rule.proofs.Reading.{cell_there}
use Rattle.mutator_seat.specs.Bound.{held_cells}
use Rattle.held_places.proofs.Narrowing.{keep_cells, keep_goes, keep_last, keep_stays}
use Rattle.held_places.proofs.theorems.a_keep_moves_one_place.Goals as goal

pub returns : goal.returns
returns g c = record {
  trail = keep_goes;
  places = λ b c n place p told there some many.
      keep_cells b c n place p told there some many
      ∙ ap (λ (x : ℕ). take n (held_cells b) ++ x ∷ []) (cell_there b.seat.me.own.held place);
  known = λ b c n place p told there some many. (
    keep_stays b c n place p told there some many g.P.Keeping.fixed,
    keep_last b c n place p told there some many,
  );
}
