use Rattle.std.proofs.Common.{◌++◌, ap, ◌∙◌}
use Rattle.cell_heap.specs.Runs.{finds_white, sweep_over}
use Rattle.core_machine.specs.Collector.{Collector}
use Rattle.cell_heap.proofs.InARow.{still_of}
use Rattle.cell_tests.proofs.in_runs.sweep_fresh.Goals as goal

pub returns-then-control-cells : goal.returns-then-control-cells
returns-then-control-cells c =
    let drives = c.requires.drives in
    let swept = c.sweep_on.ensures.swept in
    record {
      drives = record {
        seat_is = still_of c.args.heap.now c.args.seat.now c.sweep_on.new.self
            (sweep_over swept.kept ++ finds_white c.sweep_on.result) drives.seat_is swept.told;
        one = drives.one;
        answered = ap (λ (x : Collector). x.answered) swept.part ∙ drives.answered;
        marked = ap (λ (x : Collector). x.anchor_marked) swept.part ∙ drives.marked;
      };
    }
