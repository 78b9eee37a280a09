use Rattle.collector_tests.specs.Away.{IsIn}
use Rattle.collector_tests.proofs.sleeping.answer_next.Given as goal

abbrev pub invariant-loop : goal.invariant-loop
invariant-loop g l = IsIn l.heap l.mutator
