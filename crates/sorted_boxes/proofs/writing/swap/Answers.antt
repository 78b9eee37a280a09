use Rattle.mutator_seat.specs.Bound.{bound}
use Rattle.sorted_boxes.proofs.AfterWrites.{updated_keeps, updated_records, updated_still}
use Rattle.sorted_boxes.proofs.Giving.{box_open, may_update, value_gives, value_named, value_sealed}
use Rattle.sorted_boxes.proofs.Holding.{holds_same}
use Rattle.sorted_boxes.proofs.Picks.{picks_update}
use Rattle.sorted_boxes.proofs.writing.swap.Goals as goal

pub update-requires-clause-may : goal.update-requires-clause-may
update-requires-clause-may c =
    let was = bound c.args.heap.now c.args.seat.now in
    let at = c.requires.held in
    may_update was c.args.place c.args.field at.inside c.requires.there
    (box_open c.args.sorts.now was at c.args.place c.requires.there c.requires.boxed)
    c.requires.field c.args.value (value_named was c.args.value c.requires.value)
    (value_sealed c.args.sorts.now was at c.args.value c.requires.value) c.args.expected
    (value_named was c.args.expected c.requires.expected)

pub update-requires-clause-rule : goal.update-requires-clause-rule
update-requires-clause-rule c =
    let was = bound c.args.heap.now c.args.seat.now in
    let at = c.requires.held in
    picks_update was c.args.place c.args.field c.requires.there
    (box_open c.args.sorts.now was at c.args.place c.requires.there c.requires.boxed) c.args.value
    (value_named was c.args.value c.requires.value)
    (value_gives c.args.sorts.now was at c.args.place c.args.field c.args.value c.requires.value
    c.requires.fits) c.args.expected

pub returns-in-Ok : goal.returns-in-Ok
returns-in-Ok c =
    let was = bound c.args.heap.now c.args.seat.now in
    let now = bound c.args.heap.now c.update.new.seat in
    let wrote = c.in-Ok.ensures.made in
    let keeps = updated_keeps was now c.args.place c.args.field c.args.expected c.args.value _ wrote
    in
    record {
      seat = c.update.ensures.seat;
      held = holds_same was now keeps
          (updated_still was now c.args.place c.args.field c.args.expected c.args.value _ wrote)
          c.args.sorts.now c.requires.held;
      records = updated_records was now c.args.place c.args.field c.args.expected c.args.value _
          wrote;
      keeps = keeps;
      made = wrote;
      moved = tt;
    }

pub returns-in-Err : goal.returns-in-Err
returns-in-Err c =
    let was = bound c.args.heap.now c.args.seat.now in
    let now = bound c.args.heap.now c.update.new.seat in
    let moved = c.in-Err.ensures.moved in
    let keeps = updated_keeps was now c.args.place c.args.field c.args.expected c.args.value _
    moved.1 in
    record {
      seat = c.update.ensures.seat;
      held = holds_same was now keeps
          (updated_still was now c.args.place c.args.field c.args.expected c.args.value _ moved.1)
          c.args.sorts.now c.requires.held;
      records = updated_records was now c.args.place c.args.field c.args.expected c.args.value _
          moved.1;
      keeps = keeps;
      made = tt;
      moved = (_, moved.0, moved.1);
    }
