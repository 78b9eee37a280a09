use Rattle.cell_tests.specs.Collecting.{Drives}
use Rattle.cell_tests.proofs.in_runs.cycle_in_runs.Given as goal

abbrev pub invariant-loop-number : goal.invariant-loop-number
invariant-loop-number l = Drives l.heap l.flags l.seat
