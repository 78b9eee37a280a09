use Rattle.std.proofs.Common.{◌<◌, ◌≡◌, ◌-◌, length, ap, subst, ◌∙◌, arith}
use Rattle.std.specs.List.{range_with_len}
use Rattle.std.proofs.lemmas.List.FromFn.{length-range_with_len}
use Rattle.crossbeam_queue.specs.Passes.{view}
use Rattle.free_cells.specs.declared.counts.Counts.{Counts}
use Rattle.free_cells.specs.Counts.{IsContent, pushed}
use Rattle.free_cells.proofs.Filling.{fills}
use Rattle.free_cells.proofs.Keeps.{learns, pushes}
use Rattle.free_cells.proofs.opening.fill.Goals as goal

pub push_as-requires-clause-rule : goal.push_as-requires-clause-rule
push_as-requires-clause-rule g c =
    let known = ap (λ (v : Counts). v.cells) c.requires.counts in
    let fits : c.args.cell < (view c.args.pass.now).cells =
    omega (arith, c.requires.range, known) in
    (pushes _ _ _ _ fits, learns _ _)

-- fewer numbers stand there than there is room for
pub unreachable-requires : goal.unreachable-requires
unreachable-requires g c =
    let held = c.in-Err.ensures.rule.2 in
    let items : held.0 ≡ range_with_len c.args.first (c.args.cell - c.args.first) =
    subst (λ (v : Counts). IsContent v.content held.0) c.requires.counts held.2 in
    let there = ap length items ∙ length-range_with_len c.args.first (c.args.cell - c.args.first) in
    omega (arith, there, held.1, c.requires.range, c.requires.room)

pub returns-clause-counts : goal.returns-clause-counts
returns-clause-counts g c =
    c.in-Ok.ensures.rule ∙ ap (pushed c.args.cell) c.requires.counts
    ∙ fills c.args.cells c.args.first c.args.cell c.requires.first
