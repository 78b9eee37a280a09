use Rattle.cell_making.proofs.Naming.{sealed_value}
use Rattle.cell_making.proofs.theorems.a_sealed_place_may_be_named.Goals as goal

pub returns : goal.returns
returns g c = sealed_value
