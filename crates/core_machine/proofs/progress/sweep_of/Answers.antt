use Rattle.std.proofs.Common.{refl}
use Rattle.core_machine.proofs.progress.sweep_of.Goals as goal

pub returns-in-White : goal.returns-in-White
returns-in-White c = record { sweep = rw c.in-White.is refl }
