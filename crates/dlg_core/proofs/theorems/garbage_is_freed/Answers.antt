use Rattle.dlg_core.proofs.Collects.Cycles.{collects}
use Rattle.dlg_core.proofs.theorems.garbage_is_freed.Goals as goal

pub returns : goal.returns
returns c = λ s events range k. collects s events range k
