use Rattle.cell_tests.specs.Collecting.{Drives}
use Rattle.cell_tests.proofs.scanning.first_scan.Given as goal

abbrev pub invariant-loop-event : goal.invariant-loop-event
invariant-loop-event l = Drives l.heap l.flags l.seat
