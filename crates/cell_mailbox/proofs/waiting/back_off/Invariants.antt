use Rattle.cell_mailbox.specs.Ends.{Rests}
use Rattle.cell_mailbox.specs.Pacing.{Paces}
use Rattle.cell_mailbox.proofs.waiting.back_off.Given as goal

abbrev pub invariant-loop-piece : goal.invariant-loop-piece
invariant-loop-piece l = Rests l.fn.m l.m × Paces 0 5 l.fn.m l.m
