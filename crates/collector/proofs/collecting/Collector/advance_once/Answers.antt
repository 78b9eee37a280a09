use Rattle.std.proofs.Common.{subst}
use Rattle.cell_heap.specs.Telling.{FindsKnown}
use Rattle.core_machine.specs.declared.events.Event.TheVariants as event
use Rattle.core_machine.specs.declared.events.Found.TheVariants as finds
use Rattle.collector.specs.Bound.{Bound}
use Rattle.collector.proofs.collecting.Collector.advance_once.Goals as goal

pub returns-clause-known : goal.returns-clause-known
returns-clause-known g c =
    subst (λ (x : Bound _). FindsKnown x.seat.me event.Advance finds.Stored) c.self.view_is
    c.advance.ensures.known
