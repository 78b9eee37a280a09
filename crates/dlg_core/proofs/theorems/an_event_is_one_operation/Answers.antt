use Rattle.core_machine.proofs.OneOperation.{one_operation}
use Rattle.dlg_core.proofs.theorems.an_event_is_one_operation.Goals as goal

pub returns : goal.returns
returns c = λ s e range h. one_operation s e range h
