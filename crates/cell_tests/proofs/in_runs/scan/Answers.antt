use Rattle.std.proofs.Common.{◌++◌, ap, ◌∙◌}
use Rattle.cell_heap.specs.Scans.{blackens, scan_over}
use Rattle.core_machine.specs.Collector.{Collector}
use Rattle.cell_heap.proofs.InARow.{still_of}
use Rattle.cell_tests.proofs.in_runs.scan.Goals as goal

pub returns-in-Some : goal.returns-in-Some
returns-in-Some c =
    let drives = c.requires.drives in
    let scanned = c.scan_cell.ensures.scanned in
    record {
      drives = record {
        seat_is = still_of c.args.heap.now c.args.seat.now c.scan_cell.new.self
            (scan_over scanned.loaded ++ blackens) drives.seat_is scanned.told;
        one = drives.one;
        answered = ap (λ (x : Collector). x.answered) scanned.part ∙ drives.answered;
        marked = ap (λ (x : Collector). x.anchor_marked) scanned.part ∙ drives.marked;
      };
    }
