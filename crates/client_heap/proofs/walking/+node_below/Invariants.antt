use Rattle.std.proofs.Common.{length}
use Rattle.client_heap.proofs.walking.+node_below.Given as goal

-- Each call is for one name less.
abbrev pub decreases-node_below : goal.decreases-node_below
decreases-node_below g l = length l.names.now
