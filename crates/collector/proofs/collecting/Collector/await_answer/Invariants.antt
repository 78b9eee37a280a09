use Rattle.std.proofs.Common.{◌≡◌}
use Rattle.collector.specs.Bound.{control_of, part_of}
use Rattle.collector.specs.Counting.{Does, nothing}
use Rattle.collector.proofs.collecting.Collector.await_answer.Given as goal

abbrev pub invariant-loop : goal.invariant-loop
invariant-loop g l =
    Does nothing l.fn.self l.self
    × (control_of l.self ≡ control_of l.fn.self)
    × (part_of l.self ≡ part_of l.fn.self)
