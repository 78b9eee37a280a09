use Rattle.dlg_core.proofs.Untouched.{record_kept}
use Rattle.dlg_core.proofs.theorems.a_record_never_changes.Goals as goal

pub returns : goal.returns
returns c = λ s e c f range k h reachable is. record_kept s e c f range k h reachable is
