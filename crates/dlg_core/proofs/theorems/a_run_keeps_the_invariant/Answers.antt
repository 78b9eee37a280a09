use Rattle.core_machine.proofs.Runs.{runs_shaped}
use Rattle.dlg_core.proofs.Along.{runs_consistent, runs_safe}
use Rattle.dlg_core.proofs.theorems.a_run_keeps_the_invariant.Goals as goal

pub returns : goal.returns
returns c = λ s taken range k runs. (
  runs_shaped s taken range runs,
  runs_consistent s taken range k runs,
  runs_safe s taken range k
      runs,
)
