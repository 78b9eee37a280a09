use Rattle.client_history.proofs.Running.{shows_run_grown}
use Rattle.client_history.proofs.theorems.a_trail_shows_its_log.Goals as goal

pub returns : goal.returns
returns c = λ l s last log marks step grown.
    shows_run_grown s.cells log.entries s.marks marks step.turns grown
