use Rattle.held_places.proofs.Writing.{wrote_known, wrote_shown}
use Rattle.held_places.proofs.theorems.a_write_is_shown.Goals as goal

pub returns : goal.returns
returns g c = record {
  trail = wrote_shown g.P.Keeping.fixed g.P.Keeping.holds;
  places = wrote_known g.P.Keeping.fixed g.P.Keeping.holds;
}
