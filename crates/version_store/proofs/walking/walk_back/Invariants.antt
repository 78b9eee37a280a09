use Rattle.version_store.specs.Walks.{Walked}
use Rattle.version_store.specs.Writes.{ReadsAlone, WritesNothing}
use Rattle.version_store.proofs.walking.walk_back.Given as goal

abbrev pub invariant-loop : goal.invariant-loop
invariant-loop g l =
    Walked l.fn.m l.m l.fn.v l.at l.counter × WritesNothing l.fn.m l.m × ReadsAlone l.fn.m l.m
