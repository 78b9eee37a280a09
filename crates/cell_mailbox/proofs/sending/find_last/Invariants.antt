use Rattle.cell_mailbox.specs.Pacing.{Paces}
use Rattle.cell_mailbox.specs.Walks.{Stands}
use Rattle.cell_mailbox.proofs.sending.find_last.Given as goal

abbrev pub invariant-loop : goal.invariant-loop
invariant-loop g l = Stands l.fn.m l.m l.held × Paces 0 5 l.fn.m l.m
