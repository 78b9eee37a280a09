use Rattle.std.proofs.Common.{◌∙◌}
use Rattle.mutator_seat.specs.Bound.{bound}
use Rattle.sorted_boxes.proofs.Carrying.{still_records}
use Rattle.sorted_boxes.proofs.Holding.{holds_same}
use Rattle.sorted_boxes.proofs.Shown.{same_keeps, same_still}
use Rattle.sorted_boxes.proofs.placing.is_same.Goals as goal

pub returns : goal.returns
returns c =
    let was = bound c.args.heap.now c.args.seat.now in
    let now = bound c.args.heap.now c.is_same.new.seat in
    let keeps = same_keeps was now _ c.is_same.ensures.told in
    let still = same_still was now _ c.is_same.ensures.told in
    record {
      seat = c.is_same.ensures.seat;
      held = holds_same was now keeps still;
      records = still_records was now still
          (c.held_len-held.ensures.known ∙ c.held_len-held.ensures.len);
      same = c.is_same.ensures.same;
      keeps = keeps;
    }
