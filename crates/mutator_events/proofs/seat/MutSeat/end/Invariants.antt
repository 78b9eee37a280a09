-- the event is the one that the call names, and the pass stays
use Rattle.heap_rule.specs.Steps.{same_pass}
use Rattle.mutator_events.proofs.seat.MutSeat.end.Given as goal

abbrev pub ghosts-mutator_keep_bits : goal.ghosts-mutator_keep_bits
ghosts-mutator_keep_bits g a = record { event = a.event; next = same_pass }
