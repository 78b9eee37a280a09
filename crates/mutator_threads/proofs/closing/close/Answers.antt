use Rattle.std.proofs.Common.{◌∙◌, ap, sym}
use Rattle.std.proofs.lemmas.List.{length-map}
use Rattle.heap_rule.specs.Shape.{Shape}
use Rattle.mutator_threads.specs.Mutators.{views_of}
use Rattle.mutator_threads.specs.declared.worker.Worker.{Worker}
use Rattle.mutator_threads.proofs.Joined.{are_joined, is_closed, off_duty_seat}
use Rattle.mutator_threads.proofs.closing.close.Goals as goal

pub join_all-requires-clause-seat : goal.join_all-requires-clause-seat
join_all-requires-clause-seat g c =
    off_duty_seat c.args.heap c.args.queue.now c.args.cycles c.args.off.seat c.args.off.standby
    c.args.off.freed c.requires.off

pub join_all-requires-clause-many : goal.join_all-requires-clause-many
join_all-requires-clause-many g c = c.requires.many ∙ sym c.requires.off.all

pub close_joined-requires : goal.close_joined-requires
close_joined-requires g c =
    let views = views_of c.args.workers.items in
    let same = length-map c.args.workers.items (λ (w : Worker _ _). w.seat.me) in
    let seat = off_duty_seat c.args.heap c.args.queue.now c.args.cycles c.args.off.seat
    c.args.off.standby c.args.off.freed c.requires.off in
    record {
      joined = record {
        before = c.args.off.seat;
        went = c.requires.off;
        still = c.join_all.ensures.still;
        joined = are_joined c.join_all.new.seat.me views c.join_all.ensures.places
            (ap (λ (h : Shape). h.mutators) (c.join_all.ensures.still.shape ∙ seat.1)
            ∙ sym c.requires.many ∙ sym same);
      };
    }

pub returns : goal.returns
returns g c =
    let views = views_of c.args.workers.items in
    let same = length-map c.args.workers.items (λ (w : Worker _ _). w.seat.me) in
    record {
      closed = is_closed c.args.heap.shape c.args.cycles c.join_all.new.seat.me.places
          c.close_joined.result c.close_joined.ensures.closed views c.join_all.ensures.places
          (same ∙ c.requires.many);
      own = c.join_all.ensures.own;
    }
