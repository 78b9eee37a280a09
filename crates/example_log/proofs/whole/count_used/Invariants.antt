use Rattle.std.proofs.Common.{◌≤◌}
use Rattle.example_log.proofs.whole.count_used.Given as goal

abbrev pub invariant-loop-cell : goal.invariant-loop-cell
invariant-loop-cell l = l.used ≤ l.cell
