use Rattle.core_replay.proofs.SomeText.{some_text}
use Rattle.core_replay.proofs.theorems.every_schedule_has_a_text.Goals as goal

pub returns : goal.returns
returns c = λ schedule allowed. some_text schedule allowed
