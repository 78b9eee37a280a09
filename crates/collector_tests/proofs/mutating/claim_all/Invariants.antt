use Rattle.std.proofs.Common.{◌+◌}
use Rattle.collector_tests.specs.Holding.{Holds}
use Rattle.collector_tests.proofs.mutating.claim_all.Given as goal

abbrev pub invariant-loop-got : goal.invariant-loop-got
invariant-loop-got g l = Holds l.heap 100 (1 + l.got) l.mutator
