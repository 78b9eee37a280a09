use Rattle.mutator_seat.specs.Bound.{bound}
use Rattle.sorted_boxes.proofs.Holding.{calm_holds, calm_records}
use Rattle.sorted_boxes.proofs.placing.answer.Goals as goal

pub returns : goal.returns
returns c =
    let was = bound c.args.heap.now c.args.seat.now in
    let now = bound c.args.heap.now c.answer.new.seat in
    record {
      seat = c.answer.ensures.seat;
      held = calm_holds _ was now c.answer.ensures.calm;
      records = calm_records _ was now c.answer.ensures.calm;
      calm = c.answer.ensures.calm;
    }
