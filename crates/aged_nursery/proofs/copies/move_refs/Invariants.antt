use Rattle.std.proofs.Common.{◌≡◌, ◌++◌, map, take, drop}
use Rattle.aged_nursery.specs.Copies.{moved_ref}
use Rattle.aged_nursery.proofs.copies.move_refs.Given as goal

abbrev pub invariant-loop-r : goal.invariant-loop-r
invariant-loop-r l =
    l.refs ≡ map (moved_ref l.numbers) (take l.r-index l.initial.refs)
    ++ drop l.r-index l.initial.refs
