use Rattle.dlg_core.proofs.Sums.{every_run_balanced}
use Rattle.dlg_core.proofs.theorems.every_run_is_balanced.Goals as goal

pub returns : goal.returns
returns c = λ cells rooms first events six rows few. every_run_balanced cells rooms first events six
    rows few
