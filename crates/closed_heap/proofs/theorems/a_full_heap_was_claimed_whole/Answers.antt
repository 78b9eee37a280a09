use Rattle.closed_heap.proofs.Claiming.{all_claimed, each_claimed}
use Rattle.closed_heap.proofs.theorems.a_full_heap_was_claimed_whole.Goals as goal

pub returns : goal.returns
returns g c = record { each = each_claimed; count = all_claimed }
