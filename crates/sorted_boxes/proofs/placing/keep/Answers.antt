use Rattle.std.proofs.Common.{◌∙◌, arith}
use Rattle.mutator_seat.specs.Bound.{bound}
use Rattle.sorted_boxes.proofs.Narrowing.{first_records, keep_holds, kept_serves, narrows}
use Rattle.sorted_boxes.proofs.placing.keep.Goals as goal

pub keep-requires-2 : goal.keep-requires-2
keep-requires-2 c =
    let held = c.args.seat.now.me.own.held in
    let room = c.room-room.ensures.room in
    let serves = c.requires.held.serves.room in
    record {
      others = let others = c.requires.others in omega (arith, others, room, serves);
      room = let fit = c.requires.room in omega (arith, fit, serves);
    }

pub returns : goal.returns
returns c =
    let was = bound c.args.heap.now c.args.seat.now in
    let now = bound c.args.heap.now c.keep.new.seat in
    let old = c.args.sorts.now in
    let new = c.keep-2.new.self in
    let kept = c.keep-2.ensures in
    let many = c.held_len-held.ensures.known ∙ c.held_len-held.ensures.len in
    let serves = kept_serves old new was.seat.me c.args.first c.requires.some kept.boxes kept.room
    kept.first c.requires.held.serves in
    record {
      seat = c.keep.ensures.seat;
      held = keep_holds was now c.args.first c.args.place c.args.count _ c.keep.ensures.told
          c.requires.kept c.requires.others many c.requires.some c.requires.apart old new serves
          kept.first kept.moved c.requires.held;
      narrows = narrows was now c.args.first c.args.place c.args.count _ c.keep.ensures.told;
      same = kept.first;
      moved = kept.moved;
      records = first_records was now c.args.first c.args.place c.args.count _ c.keep.ensures.told
          c.requires.kept c.requires.others many;
    }
