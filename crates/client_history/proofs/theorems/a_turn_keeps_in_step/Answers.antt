use Rattle.client_history.proofs.Stepping.{in_step_lost, in_step_turned}
use Rattle.client_history.proofs.theorems.a_turn_keeps_in_step.Goals as goal

pub returns : goal.returns
returns c = record {
  lost = λ l s t last log step lost. in_step_lost l last log step lost;
  answered = λ l s t last log new command r place step turned same entries.
      in_step_turned l last log new command r place step turned same entries;
}
