use Rattle.std.proofs.Common.{arith, inr}
use Rattle.heap_c.specs.Holding.{owned_by}
use Rattle.heap_c.proofs.Reserving.{shares_end, shares_more}
use Rattle.heap_c.proofs.moving.share_for.Goals as goal

pub returns-then-room-places-clause-shared : goal.returns-then-room-places-clause-shared
returns-then-room-places-clause-shared c =
    let heap = c.args.heap.now in
    let new = c.share-code.new in
    let room = c.room.ensures.room in
    let short = c.if-room-places.true in
    inr (
      shares_end (owned_by heap c.args.seat.now c.args.sorts.now c.args.local.now)
          (owned_by heap new.seat new.sorts new.local) c.args.base
          c.args.places c.slice_of-most.result c.slice_of-most.ensures.slice c.share-code.result
          c.share-code.ensures.shared c.if-is_ok.ensures.yes,
      omega (arith, room, short),
    )

pub returns-else-room-places-clause-shared : goal.returns-else-room-places-clause-shared
returns-else-room-places-clause-shared c =
    let heap = c.args.heap.now in
    let new = c.share-code.new in
    let room = c.room.ensures.room in
    let enough = c.if-room-places.false in (
      shares_end (owned_by heap c.args.seat.now c.args.sorts.now c.args.local.now)
          (owned_by heap new.seat new.sorts new.local) c.args.base
          c.args.places c.slice_of-most.result c.slice_of-most.ensures.slice c.share-code.result
          c.share-code.ensures.shared c.if-is_ok.ensures.yes,
      omega (arith, room, enough),
    )

pub returns-else-is_ok-clause-shared : goal.returns-else-is_ok-clause-shared
returns-else-is_ok-clause-shared c =
    let heap = c.args.heap.now in
    let new = c.share-code.new in
    shares_more (owned_by heap c.args.seat.now c.args.sorts.now c.args.local.now)
    (owned_by heap new.seat new.sorts new.local) c.args.base
    c.args.places c.slice_of-most.result c.slice_of-most.ensures.slice c.share-code.result
    c.share-code.ensures.shared c.if-is_ok.ensures.no
