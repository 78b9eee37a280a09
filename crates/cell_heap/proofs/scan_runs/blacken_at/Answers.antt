use Rattle.std.proofs.Common.{refl}
use Rattle.cell_heap.proofs.AtHand.{colour_lies}
use Rattle.cell_heap.proofs.InARow.{collectors}
use Rattle.cell_heap.proofs.Kept.{kept}
use Rattle.cell_heap.proofs.Made.{knows, made_of, tells}
use Rattle.cell_heap.proofs.Owed.{below, owes, stores}
use Rattle.core_machine.specs.WordOperations.{Store}
use Rattle.core_machine.specs.declared.events.Event.TheVariants as event
use Rattle.core_machine.specs.declared.events.Found.TheVariants as finds
use Rattle.cell_heap.proofs.scan_runs.blacken_at.Goals as goal

pub collector_store-requires-clause-word : goal.collector_store-requires-clause-word
collector_store-requires-clause-word g c =
    below {old = c.args.seat.now} {inside = c.args.seat.now} c.args.heap.now event.Blacken refl
    c.requires.seat c.requires.collector refl c.requires.can
    (colour_lies c.colour_word-word.ensures.index c.requires.mutators c.requires.cell)

pub collector_store-requires-clause-kind : goal.collector_store-requires-clause-kind
collector_store-requires-clause-kind g c =
    owes {old = c.args.seat.now} {inside = c.args.seat.now} g.P.Keeping.fixed event.Blacken
    c.colour_word-word.result (Store c.pack_colour-black.result) refl refl c.requires.can
    (colour_lies c.colour_word-word.ensures.index c.requires.mutators c.requires.cell)
    (stores c.pack_colour-black.result _ c.pack_colour-black.ensures.word)

pub returns : goal.returns
returns g c =
    let step = c.collector_store.ensures.step in
    let m = made_of c.args.seat.now c.collector_store.new.seat c.collector_store.ensures.same
    step in
    record {
      told = tells m finds.Stored step.new;
      known = knows m finds.Stored refl refl;
      collector = collectors (kept m c.requires.collector refl _ refl _ refl);
    }
