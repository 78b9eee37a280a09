use Rattle.std.proofs.Common.{◌<◌, ℕ}
use Rattle.heap_census.specs.Flaws.{HasNoFlaw}
use Rattle.heap_census.specs.Heap.{Heap}
use Rattle.heap_census.specs.Roles.{TellsRoles}
use Rattle.heap_census.proofs.flaws.first_flaw.Given as goal

abbrev pub invariant-loop-cell : goal.invariant-loop-cell
invariant-loop-cell g l = (h : Heap) → g.C.Cells.shows l.cells h → TellsRoles h l.marks
    → (k : ℕ) → k < l.cell → HasNoFlaw h k
