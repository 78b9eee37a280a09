use Rattle.std.proofs.Common.{◌≡◌}
use Rattle.core_machine.specs.declared.progress.Sweeping.TheVariants as sweeping
use Rattle.collector.specs.Bound.{control_of, part_of}
use Rattle.collector.specs.Counting.{Does, nothing}
use Rattle.collector.proofs.collecting.Collector.wipe_all.Given as goal

abbrev pub invariant-loop-field : goal.invariant-loop-field
invariant-loop-field g l =
    Does nothing l.fn.self l.self
    × (control_of l.self ≡ control_of l.fn.self)
    × (part_of l.self ≡ record (part_of l.fn.self) { sweep = sweeping.Wiping l._field })
