use Rattle.std.proofs.Common.{ap}
use Rattle.mutator_seat.specs.Bound.{Bound}
use Rattle.sorted_boxes.proofs.Holding.{serves_on}
use Rattle.sorted_boxes.proofs.coming.end.Goals as goal

pub returns : goal.returns
returns c =
    let pass = ap (λ (m : Bound _). m.seat.me.pass) c.end.ensures.told in
    let room = ap (λ (m : Bound _). m.seat.me.room) c.end.ensures.told in
    record {
      seat = c.end.ensures.seat;
      out = c.end.ensures.out;
      serves = λ sorts serves.
          serves_on sorts c.args.seat.now.me c.end.new.seat.me room pass serves;
      pass = pass;
      room = room;
    }
