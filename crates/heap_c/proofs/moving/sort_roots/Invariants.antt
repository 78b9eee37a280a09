use Rattle.std.proofs.Common.{◌≡◌, ◌≤◌, ◌+◌, length, take}
use Rattle.local_records.specs.Settling.{cell_count}
use Rattle.heap_c.specs.Moving.{TellsRoots}
use Rattle.heap_c.proofs.moving.sort_roots.Given as goal

abbrev pub invariant-loop-i : goal.invariant-loop-i
invariant-loop-i l =
    TellsRoots l.first l.fn.sorts (take l.i l.fn.local.roots) l.sorts
    × ((l.next ≡ l.first + cell_count (take l.i l.fn.local.roots))
    × (l.i ≤ length l.fn.local.roots))
