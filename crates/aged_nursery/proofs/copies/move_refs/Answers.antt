use Rattle.std.proofs.Common.{◌<◌, length, arith}
use Rattle.std.proofs.lemmas.List.{get_or_default}
use Rattle.std.proofs.lemmas.List.Edits.{map_over_more}
use Rattle.aged_nursery.specs.Copies.{moved_ref}
use Rattle.aged_nursery.proofs.copies.move_refs.Goals as goal

pub loop-r-preserved : goal.loop-r-preserved
loop-r-preserved c =
    let within : c.loop-r.r-index < length c.loop-r.refs = omega arith in
    rw (c.moved_ref.ensures.moved)
    (map_over_more
    (moved_ref c.args.numbers.now) c.args.refs.now c.loop-r.refs c.loop-r.r-index _
    c.loop-r-test.true c.loop-r.invariant
    (get_or_default c.loop-r.refs c.loop-r.r-index _ _ within))
