use Rattle.dlg_core.proofs.Claimed.{every_used_claimed}
use Rattle.dlg_core.proofs.theorems.every_used_cell_was_claimed.Goals as goal

pub returns : goal.returns
returns c = λ cells rooms first events six rows few. every_used_claimed cells rooms first events six
    rows few
