-- the event is the one that the call names, and the client picks its pass
use Rattle.mutator_events.proofs.seat.MutSeat.read.Given as goal

abbrev pub ghosts-mutator_load : goal.ghosts-mutator_load
ghosts-mutator_load g a = record { event = a.event; next = g.C.Choice.next }
