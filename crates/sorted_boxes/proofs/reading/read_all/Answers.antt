use Rattle.std.proofs.Common.{arith}
use Rattle.mutator_seat.specs.Bound.{bound}
use Rattle.sorted_boxes.proofs.FiveReads.{five_sorted, read_none, read_once, read_then, room_still}
use Rattle.sorted_boxes.proofs.FiveReads.{sort_later, there_still}
use Rattle.sorted_boxes.proofs.reading.read_all.Goals as goal

pub read-second-requires : goal.read-second-requires
read-second-requires c =
    let first = c.read-first.ensures in
    let to_one = read_once first.gave first.same first.records c.requires.held first.held in
    let on = to_one in
    record {
      seat = first.seat;
      held = first.held;
      there = there_still on c.args.place c.requires.there;
      field = omega arith;
      room = room_still on (omega arith) c.requires.room;
    }

pub read-third-requires : goal.read-third-requires
read-third-requires c =
    let first = c.read-first.ensures in
    let second = c.read-second.ensures in
    let to_one = read_once first.gave first.same first.records c.requires.held first.held in
    let to_two = read_once second.gave second.same second.records first.held second.held in
    let on = read_then to_one to_two in
    record {
      seat = second.seat;
      held = second.held;
      there = there_still on c.args.place c.requires.there;
      field = omega arith;
      room = room_still on (omega arith) c.requires.room;
    }

pub read-fourth-requires : goal.read-fourth-requires
read-fourth-requires c =
    let first = c.read-first.ensures in
    let second = c.read-second.ensures in
    let third = c.read-third.ensures in
    let to_one = read_once first.gave first.same first.records c.requires.held first.held in
    let to_two = read_once second.gave second.same second.records first.held second.held in
    let to_three = read_once third.gave third.same third.records second.held third.held in
    let on = read_then (read_then to_one to_two) to_three in
    record {
      seat = third.seat;
      held = third.held;
      there = there_still on c.args.place c.requires.there;
      field = omega arith;
      room = room_still on (omega arith) c.requires.room;
    }

pub read-fifth-requires : goal.read-fifth-requires
read-fifth-requires c =
    let first = c.read-first.ensures in
    let second = c.read-second.ensures in
    let third = c.read-third.ensures in
    let fourth = c.read-fourth.ensures in
    let to_one = read_once first.gave first.same first.records c.requires.held first.held in
    let to_two = read_once second.gave second.same second.records first.held second.held in
    let to_three = read_once third.gave third.same third.records second.held third.held in
    let to_four = read_once fourth.gave fourth.same fourth.records third.held fourth.held in
    let on = read_then (read_then (read_then to_one to_two) to_three) to_four in
    record {
      seat = fourth.seat;
      held = fourth.held;
      there = there_still on c.args.place c.requires.there;
      field = omega arith;
      room = room_still on (omega arith) c.requires.room;
    }

pub returns : goal.returns
returns c =
    let heap = c.args.heap.now in
    let first = c.read-first.ensures in
    let second = c.read-second.ensures in
    let third = c.read-third.ensures in
    let fourth = c.read-fourth.ensures in
    let fifth = c.read-fifth.ensures in
    let to_one = read_once first.gave first.same first.records c.requires.held first.held in
    let to_two = read_once second.gave second.same second.records first.held second.held in
    let to_three = read_once third.gave third.same third.records second.held third.held in
    let to_four = read_once fourth.gave fourth.same fourth.records third.held fourth.held in
    let to_five = read_once fifth.gave fifth.same fifth.records fourth.held fifth.held in
    let five = bound heap c.read-fifth.new.seat in
    let on_one = to_one in
    let on_two = read_then on_one to_two in
    let on_three = read_then on_two to_three in
    let on_four = read_then on_three to_four in
    let on_five = read_then on_four to_five in
    let from_five = read_none c.read-fifth.new.sorts five in
    let from_four = read_then to_five from_five in
    let from_three = read_then to_four from_four in
    let from_two = read_then to_three from_three in
    let from_one = read_then to_two from_two in
    let start = read_none c.args.sorts.now (bound heap c.args.seat.now) in
    let there = c.requires.there in
    record {
      seat = fifth.seat;
      held = fifth.held;
      gave = record {
        one = bound heap c.read-first.new.seat;
        two = bound heap c.read-second.new.seat;
        three = bound heap c.read-third.new.seat;
        four = bound heap c.read-fourth.new.seat;
        first = first.gave;
        second = second.gave;
        third = third.gave;
        fourth = fourth.gave;
        fifth = fifth.gave;
      };
      sorts = five_sorted c.args.place c.read-first.result c.read-second.result c.read-third.result
          c.read-fourth.result c.read-fifth.result c.args.sorts.now c.read-fifth.new.sorts
          (sort_later first.gave first.sort start from_one there)
          (sort_later second.gave second.sort on_one from_two there)
          (sort_later third.gave third.sort on_two from_three there)
          (sort_later fourth.gave fourth.sort on_three from_four there)
          (sort_later fifth.gave fifth.sort on_four from_five there);
      same = on_five.same;
      records = on_five.records;
    }
