use Rattle.std.proofs.Common.{◌≡◌, ◌≤◌, length}
use Rattle.minor_heap.specs.Nursery.{IsOrdered}
use Rattle.aged_nursery.specs.Copies.{AreCopied, rank}
use Rattle.aged_nursery.specs.Survivors.{NameNoMore}
use Rattle.aged_nursery.proofs.copies.copy_marked.Given as goal

abbrev pub invariant-loop-number : goal.invariant-loop-number
invariant-loop-number l = record {
  copied : AreCopied l.heap.records l.marks l.numbers l.other.records l.number;
  named : NameNoMore l.heap.records l.other.records;
  ordered : IsOrdered 0 l.other.records;
  many : length l.other.records ≡ rank l.number l.marks;
  fewer : length l.other.records ≤ l.number;
  room : l.other.room ≡ l.initial.other.room;
  numbers : length l.numbers ≡ length l.initial.numbers;
}
