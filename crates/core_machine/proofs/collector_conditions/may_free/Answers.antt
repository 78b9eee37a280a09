use Rattle.std.proofs.Common.{refl}
use Rattle.core_machine.proofs.collector_conditions.may_free.Goals as goal

pub returns-in-Wiping : goal.returns-in-Wiping
returns-in-Wiping c = record { may = rw c.in-Wiping.is refl }
