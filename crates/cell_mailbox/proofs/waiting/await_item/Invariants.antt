use Rattle.cell_mailbox.specs.Ends.{Rests}
use Rattle.cell_mailbox.specs.Pacing.{Paces}
use Rattle.cell_mailbox.proofs.waiting.await_item.Given as goal

abbrev pub invariant-loop-look : goal.invariant-loop-look
invariant-loop-look l = Rests l.fn.m l.m × Paces 0 5 l.fn.m l.m
