use Rattle.dlg_core.proofs.Along.{every_run_has_words}
use Rattle.dlg_core.proofs.theorems.every_state_has_words.Goals as goal

pub returns : goal.returns
returns c = λ cells rooms first taken rows runs. every_run_has_words cells rooms first taken rows
    runs
