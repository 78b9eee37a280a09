use Rattle.heap_census.specs.declared.layouts.Role.{Role}
use Rattle.heap_census.specs.Heap.{Heap}
use Rattle.heap_census.specs.Roles.{HasRole}
use Rattle.heap_census.specs.Times.{Told}
use Rattle.heap_census.proofs.naming.add_names.Given as goal

abbrev pub invariant-loop-i : goal.invariant-loop-i
invariant-loop-i g l = (h : Heap) → g.C.Cells.shows l.cells h → (r : Role)
    → HasRole h r l.cell → Told h l.cell 0 l.initial.times → Told h l.cell l.i l.times
