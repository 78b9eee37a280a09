use Rattle.std.proofs.Common.{◌∙◌}
use Rattle.mutator_seat.specs.Bound.{bound}
use Rattle.sorted_boxes.proofs.AfterWrites.{refused_keeps, refused_still, stored_keeps}
use Rattle.sorted_boxes.proofs.AfterWrites.{stored_still}
use Rattle.sorted_boxes.proofs.Carrying.{still_records}
use Rattle.sorted_boxes.proofs.Giving.{box_open, may_overwrite, value_gives, value_named}
use Rattle.sorted_boxes.proofs.Giving.{value_sealed}
use Rattle.sorted_boxes.proofs.Holding.{holds_same}
use Rattle.sorted_boxes.proofs.Picks.{picks_store}
use Rattle.sorted_boxes.proofs.writing.write_once.Goals as goal

pub store-requires-clause-may : goal.store-requires-clause-may
store-requires-clause-may c =
    let was = bound c.args.heap.now c.args.seat.now in
    let at = c.requires.held in
    may_overwrite was c.args.place c.args.field at.inside c.requires.there
    (box_open c.args.sorts.now was at c.args.place c.requires.there c.requires.boxed)
    c.requires.field c.args.value (value_named was c.args.value c.requires.value)
    (value_sealed c.args.sorts.now was at c.args.value c.requires.value) c.requires.room

pub store-requires-clause-rule : goal.store-requires-clause-rule
store-requires-clause-rule c =
    let was = bound c.args.heap.now c.args.seat.now in
    let at = c.requires.held in
    picks_store was c.args.place c.args.field c.requires.there
    (box_open c.args.sorts.now was at c.args.place c.requires.there c.requires.boxed) c.args.value
    (value_named was c.args.value c.requires.value)
    (value_gives c.args.sorts.now was at c.args.place c.args.field c.args.value c.requires.value
    c.requires.fits)

pub returns-in-Ok : goal.returns-in-Ok
returns-in-Ok c =
    let was = bound c.args.heap.now c.args.seat.now in
    let now = bound c.args.heap.now c.store.new.seat in
    let named = value_named was c.args.value c.requires.value in
    let stored = c.in-Ok.ensures.made in
    let keeps = stored_keeps was now c.args.place c.args.field c.args.value c.requires.there named
    c.store.ensures.places stored in
    let still = stored_still was now c.args.place c.args.field c.args.value c.requires.there named
    stored in
    record {
      seat = c.store.ensures.seat;
      held = holds_same was now keeps still c.args.sorts.now c.requires.held;
      records = still_records was now still
          (c.held_len-held.ensures.known ∙ c.held_len-held.ensures.len);
      keeps = keeps;
      stored = stored;
      refused = tt;
    }

pub returns-in-Err : goal.returns-in-Err
returns-in-Err c =
    let was = bound c.args.heap.now c.args.seat.now in
    let now = bound c.args.heap.now c.store.new.seat in
    let named = value_named was c.args.value c.requires.value in
    let moved = c.in-Err.ensures.moved in
    let keeps = refused_keeps was now c.args.place c.args.field c.args.value c.requires.there named
    c.store.ensures.places (moved.0, _, (moved.1, moved.2)) in
    let still = refused_still was now c.args.place c.args.field c.args.value c.requires.there named
    (moved.0, _, (moved.1, moved.2)) in
    record {
      seat = c.store.ensures.seat;
      held = holds_same was now keeps still c.args.sorts.now c.requires.held;
      records = still_records was now still
          (c.held_len-held.ensures.known ∙ c.held_len-held.ensures.len);
      keeps = keeps;
      stored = tt;
      refused = (moved.0, _, (moved.1, moved.2));
    }
