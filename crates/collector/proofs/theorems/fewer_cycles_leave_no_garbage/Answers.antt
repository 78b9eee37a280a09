use Rattle.collector.proofs.Leaving.{tidy_at_close}
use Rattle.collector.proofs.theorems.fewer_cycles_leave_no_garbage.Goals as goal

pub returns : goal.returns
returns g c = λ h words v most count freed before made later sound ended is cycles fewer.
    tidy_at_close h words v most count freed before made later sound ended is cycles fewer
