use Rattle.std.proofs.Common.{arith}
use Rattle.mutator_seat.specs.Bound.{bound}
use Rattle.sorted_boxes.proofs.Again.{many_again}
use Rattle.sorted_boxes.proofs.Shown.{dropped_then, lost_on, never_on}
use Rattle.sorted_boxes.proofs.showing.put_first.Goals as goal

pub swap-requires : goal.swap-requires
swap-requires c = record {
  seat = c.requires.seat;
  held = c.requires.held;
  there = c.requires.there;
  boxed = c.requires.boxed;
  field = omega arith;
  expected = (c.requires.behind, c.requires.there);
  value = c.requires.value;
  fits = c.requires.fits;
}

pub drop_new-requires : goal.drop_new-requires
drop_new-requires c =
    let was = bound c.args.heap.now c.args.seat.now in
    let now = bound c.args.heap.now c.swap.new.seat in
    let held = c.swap.ensures.held in
    let many = many_again was now c.swap.ensures.keeps in
    let there = c.requires.there in
    record {
      seat = c.swap.ensures.seat;
      first = record {
        inside = held.inside;
        serves = held.serves;
        fit = omega (arith, many, there);
        each = λ place lt. held.each place (omega (arith, many, there, lt));
      };
      some = c.requires.behind;
    }

pub returns-then-swap : goal.returns-then-swap
returns-then-swap c = record {
  seat = c.swap.ensures.seat;
  held = c.swap.ensures.held;
  put = c.if-swap.ensures.made;
  keeps = c.swap.ensures.keeps;
  lost = tt;
  records = λ place t lt is. c.swap.ensures.records place t is;
}

pub returns-else-swap : goal.returns-else-swap
returns-else-swap c =
    let was = bound c.args.heap.now c.args.seat.now in
    let now = bound c.args.heap.now c.swap.new.seat in
    let last = bound c.args.heap.now c.drop_new.new.seat in
    record {
      seat = c.drop_new.ensures.seat;
      held = c.drop_new.ensures.held;
      put = never_on _ c.drop_new.result c.drop_new.ensures.lost;
      keeps = never_on _ c.drop_new.result c.drop_new.ensures.lost;
      lost = lost_on c.drop_new.result c.drop_new.ensures.lost
          (dropped_then was now last c.args.place c.swap.ensures.keeps c.drop_new.ensures.dropped);
      records = λ place t lt is.
          c.drop_new.ensures.records place t lt (c.swap.ensures.records place t is);
    }
