use Rattle.std.proofs.Common.{refl}
use Rattle.core_machine.proofs.words.claimed.Goals as goal

pub returns-in-Blue : goal.returns-in-Blue
returns-in-Blue c = record { colour = rw c.in-Blue.is refl }
