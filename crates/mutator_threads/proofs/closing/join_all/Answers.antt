use Rattle.std.proofs.Common.{◌∙◌, ap, arith, length, sym, List}
use Rattle.std.specs.Vec.Iter.{into_iter_items}
use Rattle.mutator_threads.specs.declared.worker.Worker.{Worker}
use Rattle.mutator_threads.proofs.Joined.{all_given, next_over, one_joined, parts_joined}
use Rattle.mutator_threads.proofs.Joined.{seat_joined}
use Rattle.mutator_threads.proofs.closing.join_all.Goals as goal

pub joined-requires-clause-worker : goal.joined-requires-clause-worker
joined-requires-clause-worker g c =
    let at = c.loop-worker in
    (next_over c.args.heap.now c.args.workers.items (into_iter_items at.worker-iterator)
    (into_iter_items c.next.new.self) c.in-Some.worker at.own.items c.args.seat.now at.seat
    at.invariant.joined c.in-Some.ensures.steps.0).over.0.seat_is

pub joined-requires-clause-over : goal.joined-requires-clause-over
joined-requires-clause-over g c =
    let at = c.loop-worker in
    (next_over c.args.heap.now c.args.workers.items (into_iter_items at.worker-iterator)
    (into_iter_items c.next.new.self) c.in-Some.worker at.own.items c.args.seat.now at.seat
    at.invariant.joined c.in-Some.ensures.steps.0).over.0.over

pub loop-worker-preserved : goal.loop-worker-preserved
loop-worker-preserved g c =
    let at = c.loop-worker in
    let steps = c.in-Some.ensures.steps in
    let one = ap (λ (ws : List (Worker _ _)). length ws) steps.0 in
    let len = c.push_reserved.ensures.len in
    let capacity = c.push_reserved.ensures.capacity in
    record {
      left = omega (arith, one, steps.1, at.invariant.left);
      room = omega (arith, one, len, capacity, at.invariant.room);
      seat = seat_joined c.args.heap.now at.seat c.joined.new.seat c.in-Some.worker.seat
          c.joined.ensures.seat at.invariant.seat;
      joined = one_joined c.args.heap.now c.args.workers.items
          (into_iter_items at.worker-iterator) (into_iter_items c.next.new.self)
          c.in-Some.worker at.own.items c.push_reserved.new.self.items c.joined.result
          c.args.seat.now at.seat c.joined.new.seat at.invariant.joined steps.0
          c.joined.ensures.own c.push_reserved.ensures.items c.joined.ensures.seat;
    }

pub returns : goal.returns
returns g c =
    let at = c.loop-worker in
    let heap = c.args.heap.now in
    let all = c.args.workers.items in
    let left = into_iter_items at.worker-iterator in
    let so = at.invariant.joined in
    let none = sym at.invariant.left ∙ c.in-None.ensures.steps.0 in
    record {
      still = so.still;
      places = parts_joined heap all left at.own.items c.args.seat.now at.seat c.requires.many
          c.requires.over so none;
      own = all_given heap all left at.own.items c.args.seat.now at.seat so none;
    }
