use Rattle.core_replay.proofs.OneText.{one_text}
use Rattle.core_replay.proofs.theorems.a_schedule_has_one_text.Goals as goal

pub returns : goal.returns
returns c = λ schedule one other is also. one_text schedule one other is also
