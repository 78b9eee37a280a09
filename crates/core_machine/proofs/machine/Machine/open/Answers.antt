use Rattle.std.proofs.Common.{replicate}
use Rattle.core_machine.proofs.Ranges.Start.{opening_in_range, opened_in_range, rows_below}
use Rattle.core_machine.proofs.machine.Machine.open.Goals as goal

pub returns-clause-range : goal.returns-clause-range
returns-clause-range c =
    opened_in_range c.with_rows.result _ c.with_rows.ensures.opening
    (opening_in_range c.args.cells
    (replicate c.args.mutators c.args.room) c.args.first.now c.requires.some_cells
    c.requires.few_cells c.requires.rows c.told-first
    (rows_below c.args.cells c.args.first.now c.requires.names))
