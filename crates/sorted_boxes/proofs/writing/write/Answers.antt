use Rattle.mutator_seat.specs.Bound.{bound}
use Rattle.sorted_boxes.specs.Calls.{no_try, one_more}
use Rattle.sorted_boxes.proofs.Again.{keeps_none, keeps_then, room_again, there_again, value_again}
use Rattle.sorted_boxes.proofs.writing.write.Goals as goal

pub loop-tried-init : goal.loop-tried-init
loop-tried-init c = (
  c.requires.seat,
  c.requires.held,
  keeps_none (bound c.args.heap.now c.args.seat.now),
  no_try,
  λ place t is. is,
)

pub write_once-requires : goal.write_once-requires
write_once-requires c =
    let was = bound c.args.heap.now c.args.seat.now in
    let now = bound c.args.heap.now c.loop-tried.seat in
    let kept = c.loop-tried.invariant in
    record {
      seat = kept.0;
      held = kept.1;
      there = there_again was now kept.2 c.args.place c.requires.there;
      boxed = c.requires.boxed;
      field = c.requires.field;
      value = value_again was now kept.2 c.args.value c.requires.value;
      fits = c.requires.fits;
      room = room_again was now kept.2 c.requires.room;
    }

pub loop-tried-preserved : goal.loop-tried-preserved
loop-tried-preserved c =
    let heap = c.args.heap.now in
    let kept = c.loop-tried.invariant in (
      c.write_once.ensures.seat,
      c.write_once.ensures.held,
      keeps_then (bound heap c.args.seat.now) (bound heap c.loop-tried.seat)
          (bound heap c.write_once.new.seat) kept.2 c.write_once.ensures.keeps,
      one_more kept.3 c.if-write_once.ensures.refused,
      λ place t is. c.write_once.ensures.records place t (kept.4 place t is),
    )

pub returns-then-write_once : goal.returns-then-write_once
returns-then-write_once c =
    let heap = c.args.heap.now in
    let kept = c.loop-tried.invariant in
    record {
      seat = c.write_once.ensures.seat;
      held = c.write_once.ensures.held;
      records = λ place t is. c.write_once.ensures.records place t (kept.4 place t is);
      keeps = keeps_then (bound heap c.args.seat.now) (bound heap c.loop-tried.seat)
          (bound heap c.write_once.new.seat) kept.2 c.write_once.ensures.keeps;
      wrote = record {
        from = bound heap c.loop-tried.seat;
        refused = kept.3;
        stored = c.if-write_once.ensures.stored;
      };
      refused = tt;
    }

pub returns : goal.returns
returns c =
    let kept = c.loop-tried.invariant in
    record {
      seat = kept.0;
      held = kept.1;
      records = kept.4;
      keeps = kept.2;
      wrote = tt;
      refused = kept.3;
    }
