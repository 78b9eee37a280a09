use Rattle.std.proofs.Common.{◌≡◌, ◌≤◌, false, sym, subst, arith}
use Rattle.std.specs.List.{SameBelow}
use Rattle.mutator_seat.specs.Bound.{bound}
use Rattle.sorted_boxes.specs.Holding.{HoldsRaw}
use Rattle.sorted_boxes.specs.Sorts.{AreFit, SortList, holds_record}
use Rattle.sorted_boxes.proofs.NewBoxes.{fit_on, raw_on, raw_there}
use Rattle.sorted_boxes.proofs.SortLists.{set_box, set_same}
use Rattle.sorted_boxes.proofs.making.make.Goals as goal

pub set-requires : goal.set-requires
set-requires c =
    let was = bound c.args.heap.now c.args.seat.now in
    let room = c.room-room.ensures.room in
    record {
      there = raw_there c.args.sorts.now c.args.place was c.requires.raw (omega (arith, room));
    }

pub make_shown-requires : goal.make_shown-requires
make_shown-requires c =
    let was = bound c.args.heap.now c.args.seat.now in
    let old = c.args.sorts.now in
    let place = c.args.place in
    let room = c.room-room.ensures.room in
    let there = raw_there old place was c.requires.raw (omega (arith, room)) in
    let is = sym c.set.ensures.set in
    record {
      seat = c.requires.seat;
      raw = subst (λ (s : SortList). HoldsRaw s was place) is (raw_on old place was c.requires.raw);
      boxed = subst (λ (s : SortList). holds_record s place ≡ false) is (set_box old place there);
      values = c.requires.values;
      fit = subst (λ (s : SortList). AreFit s c.args.fields) is
          (fit_on old place c.args.fields c.requires.values c.requires.fit);
      boxes = subst (λ (s : SortList). 1 ≤ s.boxes) is c.requires.boxes;
    }

pub returns : goal.returns
returns c =
    let was = bound c.args.heap.now c.args.seat.now in
    let old = c.args.sorts.now in
    let place = c.args.place in
    let room = c.room-room.ensures.room in
    let there = raw_there old place was c.requires.raw (omega (arith, room)) in
    let is = sym c.set.ensures.set in
    record {
      seat = c.make_shown.ensures.seat;
      held = c.make_shown.ensures.held;
      boxed = subst (λ (s : SortList). holds_record s place ≡ false) is (set_box old place there);
      same = subst (λ (s : SortList). SameBelow old.records s.records place) is
          (set_same old place false);
      records = c.make_shown.ensures.records;
      made = c.make_shown.ensures.made;
      lost = c.make_shown.ensures.lost;
    }
