use Rattle.std.proofs.Common.{◌≡◌}
use Rattle.free_cells.specs.Hints.{queue_of}
use Rattle.cell_mailbox.specs.Ends.{Rests}
use Rattle.cell_mailbox.proofs.sending.send.Given as goal

abbrev pub invariant-loop : goal.invariant-loop
invariant-loop g l = Rests l.fn.m l.m × (queue_of l.hints ≡ queue_of l.fn.hints)
