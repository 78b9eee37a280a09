use Rattle.collector_tests.specs.Away.{IsAway}
use Rattle.collector_tests.proofs.coming_and_going.come_and_go.Given as goal

abbrev pub invariant-loop : goal.invariant-loop
invariant-loop g l = IsAway l.heap 2 l.mutator
