use Rattle.std.proofs.Common.{◌≡◌, take}
use Rattle.std.specs.Prelude.{vec_capacity}
use Rattle.local_references.specs.Roots.{private_of}
use Rattle.local_references.proofs.moving.take_private.Given as goal

abbrev pub invariant-loop-i : goal.invariant-loop-i
invariant-loop-i l =
    (l.refs.items ≡ private_of (take l.i l.slots)) × (vec_capacity l.refs ≡ vec_capacity l.fn.refs)
