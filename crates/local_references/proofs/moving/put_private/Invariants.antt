use Rattle.std.proofs.Common.{◌≡◌}
use Rattle.local_references.specs.Roots.{rank}
use Rattle.local_references.proofs.Ranks.{AreMovedUpto}
use Rattle.local_references.proofs.moving.put_private.Given as goal

abbrev pub invariant-loop-i : goal.invariant-loop-i
invariant-loop-i l = record {
  so : AreMovedUpto l.fn.slots l.refs l.slots l.i;
  next : l.next ≡ rank l.fn.slots l.i;
}
