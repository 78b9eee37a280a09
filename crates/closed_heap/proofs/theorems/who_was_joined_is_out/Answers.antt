use Rattle.closed_heap.proofs.Out.{joined_out}
use Rattle.closed_heap.proofs.theorems.who_was_joined_is_out.Goals as goal

pub returns : goal.returns
returns g c = joined_out
