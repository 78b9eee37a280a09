use Rattle.std.proofs.Common.{refl}
use Rattle.sorted_boxes.proofs.showing.drop_new.Goals as goal

pub returns : goal.returns
returns c = record {
  seat = c.cut.ensures.seat;
  held = c.cut.ensures.held;
  dropped = c.cut.ensures.drops;
  records = c.cut.ensures.records;
  lost = refl;
}
