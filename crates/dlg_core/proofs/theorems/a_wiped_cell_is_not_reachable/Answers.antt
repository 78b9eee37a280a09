use Rattle.dlg_core.proofs.Untouched.{wiping_not_reachable}
use Rattle.dlg_core.proofs.theorems.a_wiped_cell_is_not_reachable.Goals as goal

pub returns : goal.returns
returns c = λ s wiped range k is. wiping_not_reachable s wiped range k is
