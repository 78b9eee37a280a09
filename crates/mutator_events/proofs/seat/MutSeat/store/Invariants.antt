-- the event is the one that the call names, and the client picks its pass
use Rattle.mutator_events.proofs.seat.MutSeat.store.Given as goal

abbrev pub ghosts-mutator_store : goal.ghosts-mutator_store
ghosts-mutator_store g a = record { event = a.event; next = g.C.Choice.next }
