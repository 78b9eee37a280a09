use Rattle.std.proofs.Common.{subst, sym}
use Rattle.crossbeam_queue.specs.Fifo.{Forks}
use Rattle.free_cells.specs.declared.counts.Counts.{Counts}
use Rattle.free_cells.specs.Below.{IsBelow}
use Rattle.free_cells.specs.Counts.{opened, unused}
use Rattle.free_cells.proofs.Keeps.{sizes}
use Rattle.free_cells.proofs.opening.size.Goals as goal

pub another-unused-requires-clause-rule : goal.another-unused-requires-clause-rule
another-unused-requires-clause-rule g c =
    subst (λ (v : Counts). Forks IsBelow c.args.pass.now.id v (opened g.S.Opening.cells) unused)
    (sym c.requires.counts) (sizes _ _)
