use Rattle.core_machine.proofs.Trails.{collecting_told}
use Rattle.dlg_core.proofs.theorems.the_collector_knows_its_part.Goals as goal

pub returns : goal.returns
returns c = λ s taken range runs. collecting_told s taken range runs
