use Rattle.dlg_core.proofs.Along.{runs_lead}
use Rattle.dlg_core.proofs.theorems.a_run_leads_to_its_last_state.Goals as goal

pub returns : goal.returns
returns c = λ s taken runs. runs_lead s taken runs
