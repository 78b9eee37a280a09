use Rattle.std.proofs.Common.{◌+◌, sym, subst, arith}
use Rattle.sorted_boxes.specs.Sorts.{SortList}
use Rattle.sorted_boxes.proofs.HeldCopies.{RecordsUpto, all_told, none_told, one_told}
use Rattle.sorted_boxes.proofs.copies.hold_records.Goals as goal

pub loop-place-init : goal.loop-place-init
loop-place-init c = none_told c.args.from c.args.sorts.now

pub set-requires : goal.set-requires
set-requires c =
    let upto = c.loop-place.invariant in
    let many = upto.many in
    let serves = c.requires.first.serves.room in
    let room = c.room-room.ensures.room in
    let len = c.held_len-end.ensures.len in
    let lt = c.loop-place-test.true in
    record { there = omega (arith, many, serves, room, len, lt) }

pub loop-place-preserved : goal.loop-place-preserved
loop-place-preserved c =
    let upto = c.loop-place.invariant in
    let many = upto.many in
    let serves = c.requires.first.serves.room in
    let room = c.room-room.ensures.room in
    let len = c.held_len-end.ensures.len in
    let lt = c.loop-place-test.true in
    subst (λ (s : SortList). RecordsUpto c.args.from (c.loop-place.place + 1) c.args.sorts.now s)
    (sym c.set.ensures.set)
    (one_told c.args.from c.loop-place.place c.args.sorts.now c.loop-place.sorts upto
    (omega (arith, many, serves, room, len, lt)))

pub returns : goal.returns
returns c =
    let upto = c.loop-place.invariant in
    let len = c.held_len-end.ensures.len in
    let over = c.loop-place-test.false in
    record {
      held = all_told c.args.from c.loop-place.place c.args.sorts.now c.loop-place.sorts
          c.args.seat.now.me upto (omega (arith, len, over)) c.requires.some c.requires.first
          c.requires.records;
      same = upto.same;
    }
