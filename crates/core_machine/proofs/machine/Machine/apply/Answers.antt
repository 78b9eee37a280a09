use Rattle.core_machine.proofs.Ranges.Events.{takes_in_range, takes_sizes}
use Rattle.core_machine.proofs.machine.Machine.apply.Goals as goal

pub returns-clause-range : goal.returns-clause-range
returns-clause-range c = takes_in_range _ _ _ c.args.event c.requires c.take.ensures.event

pub returns-clause-cells : goal.returns-clause-cells
returns-clause-cells c = (takes_sizes _ _ _ c.args.event c.take.ensures.event).0

pub returns-clause-mutators : goal.returns-clause-mutators
returns-clause-mutators c = (takes_sizes _ _ _ c.args.event c.take.ensures.event).1
