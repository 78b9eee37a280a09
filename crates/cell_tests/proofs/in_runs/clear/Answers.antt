use Rattle.std.proofs.Common.{ap, ◌∙◌}
use Rattle.cell_heap.specs.Runs.{clear_over}
use Rattle.core_machine.specs.Collector.{Collector}
use Rattle.cell_heap.proofs.InARow.{still_of}
use Rattle.cell_tests.proofs.in_runs.clear.Goals as goal

pub returns-then-cursor-cells : goal.returns-then-cursor-cells
returns-then-cursor-cells c =
    let drives = c.requires.drives in
    let cleared = c.clear_on.ensures.cleared in
    record {
      drives = record {
        seat_is = still_of c.args.heap.now c.args.seat.now c.clear_on.new.self
            (clear_over cleared.found) drives.seat_is cleared.told;
        one = drives.one;
        answered = ap (λ (x : Collector). x.answered) cleared.part ∙ drives.answered;
        marked = ap (λ (x : Collector). x.anchor_marked) cleared.part ∙ drives.marked;
      };
    }
