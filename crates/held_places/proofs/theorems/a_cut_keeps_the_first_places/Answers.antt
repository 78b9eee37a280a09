use Rattle.held_places.proofs.Going.{cut_goes, cut_known}
use Rattle.held_places.proofs.theorems.a_cut_keeps_the_first_places.Goals as goal

pub returns : goal.returns
returns g c = record { trail = cut_goes; places = cut_known g.P.Keeping.fixed }
