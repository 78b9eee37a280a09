use Rattle.std.proofs.Common.{◌<◌, length, arith}
use Rattle.std.proofs.lemmas.List.{get_or_default}
use Rattle.std.proofs.lemmas.List.Edits.{map_over_more}
use Rattle.core_machine.specs.Places.{unmark}
use Rattle.core_machine.proofs.places.unmark_all.Goals as goal

pub loop-place-preserved : goal.loop-place-preserved
loop-place-preserved c =
    let within : c.loop-place.place-index < length c.loop-place.held = omega arith in
    rw (c.unmark.ensures.place)
    (map_over_more unmark c.args.held.now c.loop-place.held c.loop-place.place-index _
    c.loop-place-test.true c.loop-place.invariant
    (get_or_default c.loop-place.held c.loop-place.place-index _ _ within))
