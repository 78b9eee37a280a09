use Rattle.std.proofs.Common.{arith}
use Rattle.mutator_seat.proofs.Pacing.{paces_none, paces_try, paces_within}
use Rattle.mutator_seat.proofs.mutator.Mutator.try_within.Goals as goal

pub returns-then-cell-cells-clause-pace : goal.returns-then-cell-cells-clause-pace
returns-then-cell-cells-clause-pace g c =
    let was = c.args.self.now in
    paces_within was c.try_cell.new.self 1 2 1 65 (omega arith) (omega arith)
    (paces_try was c.try_cell.new.self c.args.cell 1 (omega arith) c.try_cell.ensures.tried)

pub returns-else-cell-cells-clause-pace : goal.returns-else-cell-cells-clause-pace
returns-else-cell-cells-clause-pace g c = paces_none c.args.self.now 1 65 (omega arith)
