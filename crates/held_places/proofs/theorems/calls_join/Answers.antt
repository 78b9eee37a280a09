use Rattle.held_places.proofs.Going.{goes_then, holds_then}
use Rattle.held_places.proofs.theorems.calls_join.Goals as goal

pub returns : goal.returns
returns g c = record {
  trail = λ first second a b c one two. goes_then one two;
  places = holds_then g.P.Keeping.fixed;
}
