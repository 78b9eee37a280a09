use Rattle.dlg_core.proofs.Collects.Quiet.{over_along}
use Rattle.dlg_core.proofs.theorems.who_is_over_does_no_more.Goals as goal

pub returns : goal.returns
returns c = λ s events i over. over_along s events i over
