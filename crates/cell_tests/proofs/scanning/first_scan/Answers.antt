use Rattle.std.proofs.Common.{◌++◌}
use Rattle.cell_heap.specs.Scans.{blackens, scan_over}
use Rattle.cell_heap.proofs.InARow.{still_of}
use Rattle.cell_tests.proofs.scanning.first_scan.Goals as goal

pub returns-in-Some : goal.returns-in-Some
returns-in-Some c =
    let scanned = c.scan_cell.ensures.scanned in
    record {
      seat = still_of c.args.heap.now c.loop-event.seat c.scan_cell.new.self
          (scan_over scanned.loaded ++ blackens) c.loop-event.invariant.seat_is scanned.told;
    }
