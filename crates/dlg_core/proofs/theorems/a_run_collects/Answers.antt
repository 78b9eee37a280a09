use Rattle.dlg_core.proofs.Along.{runs_collect}
use Rattle.dlg_core.proofs.theorems.a_run_collects.Goals as goal

pub returns : goal.returns
returns c = λ s taken first between next c range k runs is cycles garbage. runs_collect s taken
    first between next c range k runs is cycles garbage
