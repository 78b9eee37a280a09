use Rattle.std.proofs.Common.{refl, rules}
use Rattle.core_machine.proofs.machine.Machine.duty.Goals as goal

-- a refused event leaves the machine as it was
pub returns-then-not-at_stage : goal.returns-then-not-at_stage
returns-then-not-at_stage c = record { event = (search rules, refl) }
