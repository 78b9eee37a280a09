use Rattle.core_machine.proofs.Frames.{framed}
use Rattle.dlg_core.proofs.theorems.an_event_leaves_the_rest.Goals as goal

pub returns : goal.returns
returns c = λ s e. framed s e
