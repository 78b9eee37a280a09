use Rattle.cell_making.proofs.Resting.{has_cut, rests_cut}
use Rattle.cell_making.proofs.theorems.a_cut_brings_to_rest.Goals as goal

pub returns : goal.returns
returns g c = record { rests = rests_cut; pass = has_cut }
