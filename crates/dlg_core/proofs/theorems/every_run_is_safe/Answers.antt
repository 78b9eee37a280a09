use Rattle.dlg_core.proofs.Throughout.{every_run_safe}
use Rattle.dlg_core.proofs.theorems.every_run_is_safe.Goals as goal

pub returns : goal.returns
returns c = λ cells rooms first events six rows few. every_run_safe cells rooms first events six
    rows few
