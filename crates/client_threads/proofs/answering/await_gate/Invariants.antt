use Rattle.client_threads.specs.Going.{Waits}
use Rattle.client_threads.proofs.answering.await_gate.Given as goal

abbrev pub invariant-loop : goal.invariant-loop
invariant-loop g l = Waits l.fn.m l.m
