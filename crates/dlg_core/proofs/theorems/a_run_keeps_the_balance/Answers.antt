use Rattle.dlg_core.proofs.Along.{runs_balanced}
use Rattle.dlg_core.proofs.theorems.a_run_keeps_the_balance.Goals as goal

pub returns : goal.returns
returns c = λ first s taken range k runs here. runs_balanced first s taken range k runs here
