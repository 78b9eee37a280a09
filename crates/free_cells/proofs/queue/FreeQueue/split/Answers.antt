use Rattle.std.proofs.Common.{arith}
use Rattle.free_cells.proofs.Keeps.{splits}
use Rattle.free_cells.proofs.queue.FreeQueue.split.Goals as goal

pub another-requires-clause-rule : goal.another-requires-clause-rule
another-requires-clause-rule c =
    splits _ _ (omega (arith, c.requires.pass.cells, c.args.self.now.some_cell))
