use Rattle.collector.specs.Stepping.{Steps}
use Rattle.collector.specs.Stretches.{Kept}
use Rattle.heap_c.proofs.works.moves_on.Given as goal

abbrev pub invariant-loop : goal.invariant-loop
invariant-loop l = Steps l.heard l.collector × Kept l.fn.collector l.collector
