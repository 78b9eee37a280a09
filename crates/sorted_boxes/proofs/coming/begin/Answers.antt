use Rattle.std.proofs.Common.{ℕ, List, length, sym, ◌∙◌, ap}
use Rattle.held_places.proofs.Going.{many_cells}
use Rattle.mutator_seat.specs.Bound.{Bound, bound}
use Rattle.sorted_boxes.proofs.Holding.{begun_holds, serves_on}
use Rattle.sorted_boxes.proofs.coming.begin.Goals as goal

pub returns : goal.returns
returns c =
    let was = bound c.args.heap.now c.args.seat.now in
    let now = bound c.args.heap.now c.begin.new.seat in
    let told = c.begin.ensures.told in
    let pass = ap (λ (m : Bound _). m.seat.me.pass) told.1 in
    let room = ap (λ (m : Bound _). m.seat.me.room) told.1 in
    record {
      seat = c.begin.ensures.seat;
      held = λ sorts serves. begun_holds now c.begin.ensures.inside c.begin.ensures.held sorts
          (serves_on sorts was.seat.me now.seat.me room pass serves);
      alone = sym (many_cells now) ∙ ap (λ (cs : List ℕ). length cs) c.begin.ensures.held;
      pass = pass;
      room = room;
    }
