use Rattle.std.proofs.Common.{◌∙◌}
use Rattle.mutator_seat.specs.Bound.{bound}
use Rattle.sorted_boxes.proofs.Narrowing.{cut_drops, cut_holds, cut_many, cut_records}
use Rattle.sorted_boxes.proofs.placing.cut.Goals as goal

pub returns : goal.returns
returns c =
    let was = bound c.args.heap.now c.args.seat.now in
    let now = bound c.args.heap.now c.cut.new.seat in
    let told = c.cut.ensures.told in
    let some = c.requires.some in
    let fit = c.requires.first.fit in
    let many = c.held_len-held.ensures.known ∙ c.held_len-held.ensures.len in
    record {
      seat = c.cut.ensures.seat;
      held = cut_holds was now c.args.n _ told some fit many c.args.sorts.now c.requires.first;
      many = cut_many was now c.args.n _ told some fit many;
      drops = cut_drops was now c.args.n _ told some fit many;
      records = cut_records was now c.args.n _ told some fit many;
    }
