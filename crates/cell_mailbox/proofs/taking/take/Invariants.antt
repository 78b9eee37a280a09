use Rattle.cell_mailbox.specs.Ends.{Rests}
use Rattle.cell_mailbox.specs.Pacing.{Paces}
use Rattle.cell_mailbox.proofs.taking.take.Given as goal

abbrev pub invariant-loop : goal.invariant-loop
invariant-loop g l = Rests l.fn.m l.m × Paces 0 5 l.fn.m l.m
