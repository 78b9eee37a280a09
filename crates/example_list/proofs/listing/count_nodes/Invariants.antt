use Rattle.std.proofs.Common.{◌≤◌}
use Rattle.example_list.proofs.listing.count_nodes.Given as goal

abbrev pub invariant-loop-seen : goal.invariant-loop-seen
invariant-loop-seen l = l.nodes ≤ l._seen
