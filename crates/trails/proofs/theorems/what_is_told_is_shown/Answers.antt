use Rattle.trails.proofs.Telling.{tells_shows}
use Rattle.trails.proofs.theorems.what_is_told_is_shown.Goals as goal

pub returns : goal.returns
returns c = λ f old new tells begins. tells_shows tells begins
