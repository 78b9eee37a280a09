use Rattle.std.proofs.Common.{◌≤◌}
use Rattle.closed_store.proofs.Used.{UsedOf}
use Rattle.closed_store.proofs.reading.used_cells.Given as goal

-- so many of the cells before this one are used
abbrev pub invariant-loop-cell : goal.invariant-loop-cell
invariant-loop-cell l = (l.used ≤ l.cell) × UsedOf l.image l.cell l.used
