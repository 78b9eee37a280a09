use Rattle.std.proofs.Common.{◌≤◌}
use Rattle.example_list.proofs.listing.count_used.Given as goal

abbrev pub invariant-loop-cell : goal.invariant-loop-cell
invariant-loop-cell l = l.used ≤ l.cell
