use Rattle.std.proofs.Common.{◌<◌, ap, ◌∙◌, arith}
use Rattle.crossbeam_queue.specs.Passes.{view}
use Rattle.free_cells.specs.declared.counts.Counts.{Counts}
use Rattle.free_cells.specs.Counts.{put_refused}
use Rattle.free_cells.proofs.Keeps.{learns, put_refuses, puts}
use Rattle.free_cells.proofs.hints.Hints.put.Goals as goal

pub push_as-requires-clause-rule : goal.push_as-requires-clause-rule
push_as-requires-clause-rule g c =
    let fits : c.args.cell < (view c.args.self.now.pass).cells =
    omega (arith, c.requires.range, c.args.self.now.of_queue.cells) in
    (puts _ _ _ _ fits, learns _ _)

pub another-unused-requires-clause-rule : goal.another-unused-requires-clause-rule
another-unused-requires-clause-rule g c =
    let same = ap (λ (v : Counts). v.cells) c.in-Err.ensures.rule.1 in
    let queue = c.args.self.now.queue.now in
    put_refuses _ _ (omega (arith, same, c.args.self.now.of_queue.cells, queue.some_cell))

pub returns-in-Ok-clause-counts : goal.returns-in-Ok-clause-counts
returns-in-Ok-clause-counts g c = c.in-Ok.ensures.rule

pub returns-in-Err-clause-counts : goal.returns-in-Err-clause-counts
returns-in-Err-clause-counts g c =
    c.another-unused.ensures.rule.0 ∙ ap put_refused c.in-Err.ensures.rule.1
