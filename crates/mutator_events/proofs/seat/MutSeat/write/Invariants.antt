-- the event is the one that the call names, and the client picks its pass
use Rattle.mutator_events.proofs.seat.MutSeat.write.Given as goal

abbrev pub ghosts-mutator_exchange : goal.ghosts-mutator_exchange
ghosts-mutator_exchange g a = record { event = a.event; next = g.C.Choice.next }
