use Rattle.std.proofs.Common.{[]}
use Rattle.cell_mailbox.specs.Ends.{Returns}
use Rattle.mail_threads.specs.Calls.{Drained}
use Rattle.mail_threads.proofs.receiving.take_rest.Given as goal

abbrev pub invariant-loop : goal.invariant-loop
invariant-loop g l =
    Returns [] l.fn.m l.m × Drained l.fn.items.items l.items.items l.fn.m l.m
