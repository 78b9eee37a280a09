use Rattle.client_trees.proofs.seat.MutatorClientSeat.keep_one.Goals as goal

pub returns : goal.returns
returns g c = record { told = c.keep.ensures.told }
