use Rattle.held_places.proofs.Claiming.{claimed_goes, claimed_longer, claimed_pass}
use Rattle.mutator_seat.specs.Bound.{bound}
use Rattle.sorted_boxes.proofs.Holding.{calm_holds, calm_keeps, calm_records}
use Rattle.sorted_boxes.proofs.NewBoxes.{claimed_records}
use Rattle.sorted_boxes.proofs.coming.try_cell.Goals as goal

pub returns-in-Some : goal.returns-in-Some
returns-in-Some c =
    let was = bound c.args.heap.now c.args.seat.now in
    let now = bound c.args.heap.now c.try_cell.new.seat in
    let got = c.in-Some.ensures.got in
    record {
      seat = c.try_cell.ensures.seat;
      claimed = got;
      got = λ sorts at. record { before = was; held = at; claimed = got };
      place = got.place_is;
      longer = claimed_longer was now c.in-Some.place got;
      cells = c.in-Some.ensures.cell;
      pass = claimed_pass was now c.in-Some.place got;
      room = (claimed_goes was now c.in-Some.place got).room;
      records = claimed_records was now c.in-Some.place got;
      used = tt;
      held = tt;
      keeps = tt;
      mode = tt;
    }

pub returns-in-None : goal.returns-in-None
returns-in-None c =
    let was = bound c.args.heap.now c.args.seat.now in
    let now = bound c.args.heap.now c.try_cell.new.seat in
    let calm = c.in-None.ensures.none in
    record {
      seat = c.try_cell.ensures.seat;
      claimed = tt;
      got = tt;
      place = tt;
      longer = tt;
      cells = tt;
      pass = calm.kept.pass;
      room = calm.kept.room;
      records = calm_records _ was now calm;
      used = calm;
      held = calm_holds _ was now calm;
      keeps = calm_keeps _ was now calm;
      mode = c.in-None.ensures.mode;
    }
