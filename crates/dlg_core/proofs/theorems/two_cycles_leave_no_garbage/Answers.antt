use Rattle.dlg_core.proofs.Collects.Quiet.{leaves_no_garbage}
use Rattle.dlg_core.proofs.theorems.two_cycles_leave_no_garbage.Goals as goal

pub returns : goal.returns
returns c = λ s events range k out by. leaves_no_garbage s events range k out by
