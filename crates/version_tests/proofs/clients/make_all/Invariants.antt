use Rattle.version_store.specs.Lasts.{IsSameMutator}
use Rattle.version_tests.specs.Grows.{Works}
use Rattle.version_tests.proofs.clients.make_all.Given as goal

abbrev pub invariant-loop-round : goal.invariant-loop-round
invariant-loop-round g l = Works 1 l.round 5 l.m × IsSameMutator l.fn.m l.m
