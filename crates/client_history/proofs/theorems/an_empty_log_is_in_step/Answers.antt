use Rattle.client_history.proofs.Stepping.{in_step_opening}
use Rattle.client_history.proofs.theorems.an_empty_log_is_in_step.Goals as goal

pub returns : goal.returns
returns c = λ l s log keep none draft entries. in_step_opening l s log keep none draft entries
