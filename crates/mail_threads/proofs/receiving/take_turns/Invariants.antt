use Rattle.mail_threads.specs.Calls.{Received}
use Rattle.mail_threads.proofs.receiving.take_turns.Given as goal

abbrev pub invariant-loop-line : goal.invariant-loop-line
invariant-loop-line g l = Received l._line l.items.items l.fn.m l.m
