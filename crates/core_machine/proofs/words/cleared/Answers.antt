use Rattle.std.proofs.Common.{refl}
use Rattle.core_machine.proofs.words.cleared.Goals as goal

pub returns-in-Black : goal.returns-in-Black
returns-in-Black c = record { colour = rw c.in-Black.is refl }
