use Rattle.std.proofs.Common.{sym, subst}
use Rattle.collector.specs.Bound.{Bound}
use Rattle.heap_table.specs.Seats.{SeatView}
use Rattle.beside_collector.specs.Freed.{HasFreed}
use Rattle.beside_collector.specs.Serving.{Serves}
use Rattle.beside_collector.proofs.Freed.{has_freed}
use Rattle.beside_collector.proofs.Working.{serves}
use Rattle.mutator_threads.proofs.closing.serve_late.Goals as goal

pub returns : goal.returns
returns g c =
    let cycles = c.args.cycles in
    let made = c.serve_on_demand-freed.ensures.served in
    let freed = c.serve_on_demand-freed.result in
    let old = c.new-collector.result in
    let new = c.serve_on_demand-freed.new.self in
    record {
      serves = subst (λ (s : SeatView _). Serves cycles c.args.seat s)
          (sym c.into_seat.ensures.seat)
          (subst (λ (b : Bound _). Serves cycles b.seat new.seat) c.new-collector.ensures.collector
          (serves cycles freed made.0 old new made.1 made.2
          c.serve_on_demand-freed.ensures.idle c.serve_on_demand-freed.ensures.off_duty));
      freed = subst (λ (s : SeatView _). HasFreed c.args.seat s freed)
          (sym c.into_seat.ensures.seat)
          (subst (λ (b : Bound _). HasFreed b.seat new.seat freed) c.new-collector.ensures.collector
          (has_freed cycles freed made.0 old new made.2));
    }
