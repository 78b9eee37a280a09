use Rattle.std.proofs.Common.{◌≡◌, length}
use Rattle.heap_census.specs.Heap.{Heap}
use Rattle.heap_census.specs.Roles.{TellsRoles}
use Rattle.heap_census.specs.Times.{Told}
use Rattle.heap_census.proofs.naming.times_named.Given as goal

abbrev pub invariant-loop-cell : goal.invariant-loop-cell
invariant-loop-cell g l = record {
  size : length l.times.items ≡ g.C.Cells.size l.cells;
  told : (h : Heap) → g.C.Cells.shows l.cells h → TellsRoles h l.fn.marks
      → Told h l.cell 0 l.times.items;
}
