use Rattle.core_machine.specs.declared.events.Event.TheVariants as event
use Rattle.core_machine.specs.declared.events.Found.TheVariants as finds
use Rattle.mutator_seat.specs.Bound.{bound}
use Rattle.mutator_seat.specs.Claims.{anything}
use Rattle.mutator_seat.proofs.Calm.{calm_one, kept_look}
use Rattle.sorted_boxes.proofs.Holding.{calm_holds, calm_keeps, calm_records}
use Rattle.sorted_boxes.proofs.coming.look.Goals as goal

pub returns : goal.returns
returns c =
    let was = bound c.args.heap.now c.args.seat.now in
    let now = bound c.args.heap.now c.look_once.new.seat in
    let calm = calm_one anything was now (event.Look was.seat.me.number)
    (finds.Control c.look_once.result) c.look_once.ensures.told
    (kept_look was was.seat.me.number c.look_once.result) tt in
    record {
      seat = c.look_once.ensures.seat;
      mode = c.look_once.ensures.mode;
      held = calm_holds anything was now calm;
      records = calm_records anything was now calm;
      keeps = calm_keeps anything was now calm;
    }
