use Rattle.std.proofs.Common.{◌≡◌, map}
use Rattle.std.specs.List.{range_with_len}
use Rattle.collector_tests.specs.Rows.{chain_row}
use Rattle.collector_tests.proofs.heaps.chain.Given as goal

abbrev pub invariant-loop-cell : goal.invariant-loop-cell
invariant-loop-cell l = l.rows.items ≡ map chain_row (range_with_len 0 l.cell)
