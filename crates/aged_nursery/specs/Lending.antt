-- What a caller that writes to the heap in use leaves.
-- Source: this project's.
use Rattle.std.specs.Borrow.{Lends, MutBor, Fml}
use Rattle.minor_heap.specs.Nursery.{Nursery}
use Rattle.minor_heap.specs.contracts.heap.MinorHeap.{the_row as heap_row}
use Rattle.aged_nursery.specs.Aged.{Aged}
use Rattle.aged_nursery.specs.contracts.nursery.AgedNursery.{the_row}

-- the caller leaves that heap in use, and nothing else is new
abbrev pub LendsHeap : MutBor Aged → MutBor Nursery → Fml
LendsHeap a heap = Lends the_row heap_row a heap (λ w. record a.now { heap = w })
