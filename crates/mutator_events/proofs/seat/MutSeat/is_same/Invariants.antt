-- the event is the one that the call names, and the pass stays
use Rattle.heap_rule.specs.Steps.{same_pass}
use Rattle.mutator_events.proofs.seat.MutSeat.is_same.Given as goal

abbrev pub ghosts-mutator_load : goal.ghosts-mutator_load
ghosts-mutator_load g a = record { event = a.event; next = same_pass }
