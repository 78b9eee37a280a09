use Rattle.std.proofs.Common.{◌≤◌}
use Rattle.collector_tests.specs.Holding.{HoldsOne}
use Rattle.collector_tests.proofs.mutating.make_all.Given as goal

abbrev pub invariant-loop : goal.invariant-loop
invariant-loop g l = HoldsOne l.heap l.mutator × (l.made ≤ l.counter)
