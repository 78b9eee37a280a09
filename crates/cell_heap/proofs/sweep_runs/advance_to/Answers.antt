use Rattle.std.proofs.Common.{refl, sym}
use Rattle.cell_heap.proofs.Changes.{stores_control}
use Rattle.cell_heap.proofs.InARow.{collectors, next_valid}
use Rattle.cell_heap.proofs.Kept.{kept}
use Rattle.cell_heap.proofs.Made.{knows, made_of, tells}
use Rattle.cell_heap.proofs.Owed.{owes}
use Rattle.core_machine.specs.WordOperations.{Store}
use Rattle.core_machine.specs.declared.events.Event.TheVariants as event
use Rattle.core_machine.specs.declared.events.Found.TheVariants as finds
use Rattle.cell_heap.proofs.sweep_runs.advance_to.Goals as goal

pub pack_control-word-requires : goal.pack_control-word-requires
pack_control-word-requires g c =
    next_valid c.args.seat.now.me c.args.control c.requires.collector c.requires.control
    c.requires.can

pub collector_store-requires-clause-kind : goal.collector_store-requires-clause-kind
collector_store-requires-clause-kind g c =
    owes {old = c.args.seat.now} {inside = c.args.seat.now} g.P.Keeping.fixed event.Advance 0
    (Store c.pack_control-word.result) refl refl c.requires.can refl
    (stores_control event.Advance c.args.seat.now.me.control c.args.seat.now.me.control
    c.args.control c.pack_control-word.result refl (sym c.requires.control)
    c.pack_control-word.ensures.word)

pub returns : goal.returns
returns g c =
    let step = c.collector_store.ensures.step in
    let m = made_of c.args.seat.now c.collector_store.new.seat c.collector_store.ensures.same
    step in
    record {
      told = tells m finds.Stored step.new;
      known = knows m finds.Stored refl refl;
      collector = collectors (kept m c.requires.collector refl _ refl _ refl);
    }
