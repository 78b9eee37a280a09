-- Each call is for one name less.
use Rattle.std.proofs.Common.{length}
use Rattle.records_tests.proofs.document.+node_at.Given as goal

abbrev pub decreases-node_at : goal.decreases-node_at
decreases-node_at l = length l.names.now
