use Rattle.client_history.proofs.Stepping.{made_claimed, tied}
use Rattle.client_history.proofs.theorems.a_log_in_step_is_tied.Goals as goal

pub returns : goal.returns
returns c = record {
  tied = λ l s last log step. tied l s last log step;
  made = λ l s last log step. made_claimed l s last log step;
}
