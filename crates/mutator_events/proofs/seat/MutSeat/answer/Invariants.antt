-- the event is the one that the call names, and the pass stays
use Rattle.heap_rule.specs.Steps.{same_pass}
use Rattle.mutator_events.proofs.seat.MutSeat.answer.Given as goal

abbrev pub ghosts-mutator_store : goal.ghosts-mutator_store
ghosts-mutator_store g a = record { event = a.event; next = same_pass }
