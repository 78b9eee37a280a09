use Rattle.heap_census.proofs.Judged.{none_here, none_more}
use Rattle.heap_census.proofs.flaws.first_flaw.Goals as goal

pub loop-cell-preserved : goal.loop-cell-preserved
loop-cell-preserved g c = λ h shows tells.
    let cell = c.loop-cell.cell in
    none_more h cell (c.loop-cell.invariant h shows tells)
    (none_here h cell c.flaw_of.result c.in_default.not-Some
    (c.flaw_of.ensures h shows (λ r. tells r cell)))
