use Rattle.std.proofs.Common.{◌≡◌, ◌≤◌, length}
use Rattle.heap_tests.proofs.ageing.make_loose.Given as goal

abbrev pub invariant-loop : goal.invariant-loop
invariant-loop l =
    (l.heap.room ≡ l.initial.heap.room)
    × (length l.initial.heap.records ≤ length l.heap.records)
