use Rattle.std.proofs.Common.{refl, sym}
use Rattle.cell_heap.proofs.Changes.{posts, stores_control}
use Rattle.cell_heap.proofs.Kept.{kept}
use Rattle.cell_heap.proofs.Made.{knows, made, tells}
use Rattle.cell_heap.proofs.Owed.{owes}
use Rattle.core_machine.specs.WordOperations.{Store}
use Rattle.core_machine.specs.declared.events.Event.TheVariants as event
use Rattle.core_machine.specs.declared.events.Found.TheVariants as finds
use Rattle.cell_heap.proofs.seat.ColSeat.post.Goals as goal

pub collector_store-requires-clause-kind : goal.collector_store-requires-clause-kind
collector_store-requires-clause-kind g c =
    owes g.P.Keeping.fixed (event.Post c.args.stage) 0
    (Store c.pack_control-word.result) c.self.view_is refl c.requires.can refl
    (stores_control (event.Post c.args.stage) c.self.inside.seat.me.control c.self.inside.control
    c.posted-control.result c.pack_control-word.result c.self.invariant.control_is
    (sym c.posted-control.ensures.control) c.pack_control-word.ensures.word)

pub invariant_of-self : goal.invariant_of-self
invariant_of-self g c =
    kept (made c.self.view_is c.collector_store.ensures.same c.collector_store.ensures.step)
    c.self.invariant refl _ (sym c.posted-control.ensures.control) _
    (posts c.self.invariant c.args.stage c.post.ensures.posted)

pub returns : goal.returns
returns g c =
    let step = c.collector_store.ensures.step in
    let m = made c.self.view_is c.collector_store.ensures.same step in
    record {
      told = tells m finds.Stored step.new;
      known = knows m finds.Stored refl refl;
    }
