use Rattle.std.proofs.Common.{◌≤◌}
use Rattle.cell_tests.specs.Collecting.{Drives}
use Rattle.cell_tests.specs.Storing.{HoldsAnchor}
use Rattle.cell_tests.proofs.storing.store_in_cycle.Given as goal

abbrev pub invariant-loop-number : goal.invariant-loop-number
invariant-loop-number l =
    Drives l.heap l.flags l.collector × HoldsAnchor l.heap l.mutator × (l.stored ≤ l.number)
