use Rattle.std.proofs.Common.{◌≡◌, ◌+◌, take}
use Rattle.local_records.specs.Settling.{cell_count}
use Rattle.local_records.proofs.Places.{shared_upto}
use Rattle.local_records.proofs.settling.share_roots.Given as goal

abbrev pub invariant-loop-i : goal.invariant-loop-i
invariant-loop-i l = record {
  so : l.stack.roots ≡ shared_upto l.first l.fn.stack.roots l.i;
  next : l.next ≡ l.first + cell_count (take l.i l.fn.stack.roots);
  most : l.stack.room ≡ l.fn.stack.room;
}
