use Rattle.held_places.proofs.Steps.{was_read}
use Rattle.held_places.proofs.theorems.a_read_holds_what_it_finds.Goals as goal

pub returns : goal.returns
returns g c = was_read g.P.Keeping.fixed g.P.Keeping.holds
