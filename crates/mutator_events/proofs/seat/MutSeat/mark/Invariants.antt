-- the event is the one that the call names, and the pass stays
use Rattle.heap_rule.specs.Steps.{same_pass}
use Rattle.mutator_events.proofs.seat.MutSeat.mark.Given as goal

abbrev pub ghosts-mutator_exchange : goal.ghosts-mutator_exchange
ghosts-mutator_exchange g a = record { event = a.event; next = same_pass }
