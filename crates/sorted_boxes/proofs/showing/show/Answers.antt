use Rattle.mutator_events.specs.declared.values.Value.TheVariants as values
use Rattle.mutator_seat.specs.Bound.{bound}
use Rattle.sorted_boxes.proofs.Giving.{may_name}
use Rattle.sorted_boxes.proofs.Picks.{picks_itself}
use Rattle.sorted_boxes.proofs.Shown.{named_holds, named_keeps, named_records, never_refused}
use Rattle.sorted_boxes.proofs.showing.show.Goals as goal
use Rattle.std.proofs.Common.{arith}

pub update-requires : goal.update-requires
update-requires c =
    let was = bound c.args.heap.now c.args.seat.now in
    let new = c.requires.new in
    record {
      seat = c.requires.seat;
      may = may_name was c.args.fresh 0 new.first.inside new.may (omega arith);
      rule = picks_itself was c.args.fresh 0 new.may c.requires.sort values.Null;
    }

pub returns-in-Ok : goal.returns-in-Ok
returns-in-Ok c =
    let was = bound c.args.heap.now c.args.seat.now in
    let now = bound c.args.heap.now c.update.new.seat in
    let sorts = c.args.sorts.now in
    let named = c.in-Ok.ensures.made in
    record {
      seat = c.update.ensures.seat;
      held = named_holds was c.args.fresh sorts c.requires.new now named c.requires.boxed;
      named = named;
      keeps = named_keeps was c.args.fresh sorts c.requires.new now named;
      records = named_records was c.args.fresh sorts c.requires.new now named;
    }

pub returns-in-Err : goal.returns-in-Err
returns-in-Err c =
    let was = bound c.args.heap.now c.args.seat.now in
    let now = bound c.args.heap.now c.update.new.seat in
    let moved = c.in-Err.ensures.moved in
    absurd (never_refused was c.args.fresh c.args.sorts.now c.requires.new now _ moved.1 moved.0)
