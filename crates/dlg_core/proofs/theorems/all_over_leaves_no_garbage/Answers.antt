use Rattle.dlg_core.proofs.Collects.Quiet.{over_leaves_no_garbage}
use Rattle.dlg_core.proofs.theorems.all_over_leaves_no_garbage.Goals as goal

pub returns : goal.returns
returns c = λ s events range k over. over_leaves_no_garbage s events range k over
