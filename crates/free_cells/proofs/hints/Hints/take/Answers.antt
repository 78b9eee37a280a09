use Rattle.std.proofs.Common.{◌<◌, ap, arith}
use Rattle.crossbeam_queue.specs.Passes.{view}
use Rattle.free_cells.specs.declared.counts.Counts.{Counts}
use Rattle.free_cells.proofs.Keeps.{learns, takes, takes_none}
use Rattle.free_cells.proofs.hints.Hints.take.Goals as goal

pub pop_as-requires-clause-rule : goal.pop_as-requires-clause-rule
pop_as-requires-clause-rule g c =
    let used : 0 < (view c.args.self.now.pass).cells =
    omega (arith, c.args.self.now.of_queue.cells, c.args.self.now.queue.now.some_cell) in
    (takes _ _ used, learns _ _)

pub another-unused-requires-clause-rule : goal.another-unused-requires-clause-rule
another-unused-requires-clause-rule g c =
    let same = ap (λ (v : Counts). v.cells) c.in-None.ensures.rule.0 in
    let queue = c.args.self.now.queue.now in
    takes_none _ _ (omega (arith, same, c.args.self.now.of_queue.cells, queue.some_cell))

pub returns-in-Some-clause-front : goal.returns-in-Some-clause-front
returns-in-Some-clause-front g c = c.in-Some.ensures.rule.1
