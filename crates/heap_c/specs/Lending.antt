-- How a handle follows what is lent of it.
-- Source: this project's.
use Rattle.std.specs.Prelude.{Option, Some}
use Rattle.std.specs.Borrow.{Fml, LendsIf, MutBor}
use Rattle.heap_c.specs.contracts.collecting.Collecting as Collecting
use Rattle.heap_c.specs.contracts.handle.HeapMut as HeapMut
use Rattle.heap_c.specs.contracts.keeper.HeapCol as HeapCol
use Rattle.heap_c.specs.contracts.mine.Mine as Mine

abbrev pub with_mine : HeapMut.the_row.Denot → Mine.the_row.Denot → HeapMut.the_row.Denot
with_mine h m = record { ptr = h.ptr; alloc = h.alloc; mine = Some m }

abbrev pub lends_mine : MutBor HeapMut.the_row.Denot → Option (MutBor Mine.the_row.Denot) → Fml
lends_mine h r = LendsIf HeapMut.the_row Mine.the_row h r (with_mine h.now) h.now

abbrev pub with_collecting : HeapCol.the_row.Denot → Collecting.the_row.Denot
    → HeapCol.the_row.Denot
with_collecting h k = record { ptr = h.ptr; alloc = h.alloc; collecting = Some k }

abbrev pub lends_collecting : MutBor HeapCol.the_row.Denot
    → Option (MutBor Collecting.the_row.Denot) → Fml
lends_collecting h r =
    LendsIf HeapCol.the_row Collecting.the_row h r (with_collecting h.now) h.now
