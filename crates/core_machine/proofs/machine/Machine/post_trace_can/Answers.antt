use Rattle.std.proofs.Common.{rules}
use Rattle.core_machine.proofs.machine.Machine.post_trace_can.Goals as goal

pub returns-then-all_answered : goal.returns-then-all_answered
returns-then-all_answered c = record { can = search rules }
