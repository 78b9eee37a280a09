use Rattle.std.proofs.Common.{length}
use Rattle.client_tests.proofs.calls.+node_at.Given as goal

-- Each call is for one name less.
abbrev pub decreases-node_at : goal.decreases-node_at
decreases-node_at l = length l.names.now
