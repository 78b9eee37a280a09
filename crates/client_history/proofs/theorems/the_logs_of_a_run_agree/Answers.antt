use Rattle.client_history.proofs.Agreeing.{logs_agree}
use Rattle.client_history.proofs.theorems.the_logs_of_a_run_agree.Goals as goal

pub returns : goal.returns
returns c = λ l h words v logs ended some_one many left.
    logs_agree l h words v logs ended some_one many left
