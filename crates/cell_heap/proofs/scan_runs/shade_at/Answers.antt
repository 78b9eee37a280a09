use Rattle.std.proofs.Common.{refl}
use Rattle.cell_heap.proofs.AtHand.{colour_lies}
use Rattle.cell_heap.proofs.InARow.{collectors}
use Rattle.cell_heap.proofs.Kept.{kept}
use Rattle.cell_heap.proofs.Made.{knows, made_of, tells}
use Rattle.cell_heap.proofs.Owed.{below, exchanges, owes}
use Rattle.core_machine.specs.WordOperations.{Exchange}
use Rattle.core_machine.specs.declared.events.Event.TheVariants as event
use Rattle.core_machine.specs.declared.events.Found.TheVariants as finds
use Rattle.cell_heap.proofs.scan_runs.shade_at.Goals as goal

pub collector_exchange-requires-clause-word : goal.collector_exchange-requires-clause-word
collector_exchange-requires-clause-word g c =
    below {old = c.args.seat.now} {inside = c.args.seat.now} c.args.heap.now event.Shade refl
    c.requires.seat c.requires.collector refl c.requires.can
    (colour_lies c.colour_word-word.ensures.index c.requires.mutators c.requires.child)

pub collector_exchange-requires-clause-kind : goal.collector_exchange-requires-clause-kind
collector_exchange-requires-clause-kind g c =
    owes {old = c.args.seat.now} {inside = c.args.seat.now} g.P.Keeping.fixed event.Shade
    c.colour_word-word.result (Exchange c.pack_colour-old.result c.pack_colour-new.result)
    refl refl c.requires.can
    (colour_lies c.colour_word-word.ensures.index c.requires.mutators c.requires.child)
    (exchanges c.pack_colour-old.result c.pack_colour-new.result _ _
    c.pack_colour-old.ensures.word c.pack_colour-new.ensures.word)

pub returns : goal.returns
returns g c =
    let step = c.collector_exchange.ensures.step in
    let m = made_of c.args.seat.now c.collector_exchange.new.seat
    c.collector_exchange.ensures.same step in
    record {
      told = record {
        found = _;
        known = knows m (finds.Colour _) refl refl;
        told = tells m (finds.Colour _) step.new;
      };
      collector = collectors (kept m c.requires.collector refl _ refl _ refl);
    }
