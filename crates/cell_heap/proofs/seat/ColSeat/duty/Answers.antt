use Rattle.std.proofs.Common.{refl}
use Rattle.cell_heap.proofs.Changes.{stores_control}
use Rattle.cell_heap.proofs.Kept.{kept}
use Rattle.cell_heap.proofs.Made.{knows, made, tells}
use Rattle.cell_heap.proofs.Owed.{owes}
use Rattle.core_machine.specs.WordOperations.{Store}
use Rattle.core_machine.specs.declared.events.Event.TheVariants as event
use Rattle.core_machine.specs.declared.events.Found.TheVariants as finds
use Rattle.cell_heap.proofs.seat.ColSeat.duty.Goals as goal

pub collector_store-requires-clause-kind : goal.collector_store-requires-clause-kind
collector_store-requires-clause-kind g c =
    owes g.P.Keeping.fixed (event.Duty c.args.on) 0
    (Store c.pack_control-word.result) c.self.view_is refl c.requires.can refl
    (stores_control (event.Duty c.args.on) c.self.inside.seat.me.control c.self.inside.control
    _ c.pack_control-word.result c.self.invariant.control_is
    refl c.pack_control-word.ensures.word)

pub invariant_of-self : goal.invariant_of-self
invariant_of-self g c =
    kept (made c.self.view_is c.collector_store.ensures.same c.collector_store.ensures.step)
    c.self.invariant refl _ refl _ c.self.invariant.progress_is

pub returns : goal.returns
returns g c =
    let step = c.collector_store.ensures.step in
    let m = made c.self.view_is c.collector_store.ensures.same step in
    record {
      told = tells m finds.Stored step.new;
      known = knows m finds.Stored refl refl;
    }
