use Rattle.std.proofs.Common.{subst, sym}
use Rattle.heap_rule.specs.declared.view.View.{View}
use Rattle.mutator_threads.specs.Closing.{HasClosed}
use Rattle.mutator_threads.proofs.Joined.{freed_before, has_closed, last_seat, may_still}
use Rattle.mutator_threads.proofs.Joined.{none_before}
use Rattle.mutator_threads.proofs.closing.close_joined.Goals as goal

pub finish_service-seat-requires : goal.finish_service-seat-requires
finish_service-seat-requires g c =
    let heap = c.args.heap in
    let queue = c.args.queue.now in
    let cycles = c.args.cycles in
    let joined = c.requires.joined in
    record {
      may = may_still heap queue cycles c.args.off joined;
      freed = freed_before heap queue cycles c.args.off joined;
      none = none_before heap queue cycles c.args.off joined;
    }

pub close-image-requires : goal.close-image-requires
close-image-requires g c = record {
  seat = last_seat c.args.heap c.args.queue.now c.args.cycles c.args.off c.requires.joined
      c.finish_service-seat.result.0 c.finish_service-seat.ensures.served;
}

pub returns : goal.returns
returns g c =
    let late = c.finish_service-seat.ensures in
    let last = c.finish_service-seat.result.0 in
    let freed = c.finish_service-seat.result.1 in
    let image = c.close-image.result.0 in
    record {
      closed = subst (λ (v : View _). HasClosed g.P.Keeping.opening g.P.Keeping.holds
          g.P.Keeping.fixed c.args.heap.shape c.args.cycles c.args.off.seat.me.places
          record {
            image = image;
            passes = v;
            freed = freed;
            number_freed = c.freed-number_freed.result;
          })
          (sym c.close-image.ensures.passes)
          (has_closed c.args.heap c.args.queue.now c.args.cycles c.args.off c.requires.joined
          last late.served image freed c.freed-number_freed.result c.close-image.ensures.ended
          (c.close-image.ensures.shown c.close-image.ensures.ended) late.freed
          c.close-image.ensures.sizes.0 (sym c.freed-number_freed.ensures.freed)
          c.freed-number_freed.ensures.few);
    }
