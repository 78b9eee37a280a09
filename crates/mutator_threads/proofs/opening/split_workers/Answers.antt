use Rattle.std.proofs.Common.{◌∙◌, List, Ok, ap, arith, length, subst, sym}
use Rattle.std.proofs.lemmas.List.{length_push}
use Rattle.beside_collector.specs.Places.{AllFrom}
use Rattle.beside_collector.proofs.Places.{all_push}
use Rattle.beside_collector.proofs.Splitting.{none_split, one_split}
use Rattle.heap_table.specs.Seats.{SeatView}
use Rattle.mutator_threads.specs.Mutators.{IsWorker}
use Rattle.mutator_threads.specs.declared.worker.Worker.{Worker}
use Rattle.mutator_threads.proofs.opening.split_workers.Goals as goal

pub loop-number-init : goal.loop-number-init
loop-number-init g c =
    let is = IsWorker g.P.Keeping.opening c.args.heap.now c.args.queue.now c.args.room
    (λ number one. goal.F-post g c.args.own.now number (Ok one)) in
    record {
      workers = subst (λ (ws : List (Worker _ _)). AllFrom is 0 ws)
          (sym c.in_ok-workers.ensures.items) tt;
      many = ap (λ (ws : List (Worker _ _)). length ws) c.in_ok-workers.ensures.items;
      len = c.in_ok-workers.ensures.len;
      room = c.in_ok-workers.ensures.exact;
      seat = c.requires.seat;
      split = none_split c.args.mutators c.args.seat.now c.requires.unsplit;
      pass = c.requires.pass;
    }

pub loop-number-preserved : goal.loop-number-preserved
loop-number-preserved g c =
    let k = c.loop-number.invariant in
    let made = c.in_ok-worker.ensures.seat in
    let number = c.loop-number.number in
    let workers = c.loop-number.workers.items in
    let is = IsWorker g.P.Keeping.opening c.args.heap.now c.args.queue.now c.args.room
    (λ number one. goal.F-post g c.args.own.now number (Ok one)) in
    let longer = length_push workers c.in_ok-worker.worker in
    let items = ap (λ (ws : List (Worker _ _)). length ws) c.push_reserved.ensures.items in
    let len = c.push_reserved.ensures.len in
    record {
      workers = subst (λ (ws : List (Worker _ _)). AllFrom is 0 ws)
          (sym c.push_reserved.ensures.items)
          (all_push is number workers c.in_ok-worker.worker k.workers k.many
          c.in_ok-worker.ensures.worker);
      many = omega (arith, items, longer, k.many);
      len = omega (arith, len, k.len);
      room = c.push_reserved.ensures.capacity ∙ k.room;
      seat = (
        ap (λ (s : SeatView _). s.table) made ∙ k.seat.0,
        ap (λ (s : SeatView _). s.me.shape) made ∙ k.seat.1,
      );
      split = one_split number c.args.mutators c.args.seat.now c.loop-number.seat
          c.new_worker.new.seat k.split made;
      pass = c.in_ok-worker.ensures.pass;
    }
