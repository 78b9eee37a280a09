use Rattle.std.proofs.Common.{ap, refl, sym}
use Rattle.cell_heap.proofs.AtHand.{colour_lies}
use Rattle.cell_heap.proofs.InARow.{collectors}
use Rattle.cell_heap.proofs.Kept.{kept}
use Rattle.cell_heap.proofs.Made.{knows, made_of, tells_colour}
use Rattle.cell_heap.proofs.Owed.{below, owes}
use Rattle.core_machine.specs.WordOperations.{Load}
use Rattle.core_machine.specs.declared.events.Event.TheVariants as event
use Rattle.core_machine.specs.declared.events.Found.TheVariants as finds
use Rattle.cell_heap.proofs.trace_runs.see_at.Goals as goal

pub collector_load-found-requires-clause-word : goal.collector_load-found-requires-clause-word
collector_load-found-requires-clause-word g c =
    below {old = c.args.seat.now} {inside = c.args.seat.now} c.args.heap.now
    (event.See c.args.cell) refl c.requires.seat c.requires.collector refl c.requires.can
    (colour_lies c.colour_word-word.ensures.index c.requires.mutators refl)

pub collector_load-found-requires-clause-kind : goal.collector_load-found-requires-clause-kind
collector_load-found-requires-clause-kind g c =
    owes {old = c.args.seat.now} {inside = c.args.seat.now} g.P.Keeping.fixed
    (event.See c.args.cell) c.colour_word-word.result Load refl refl c.requires.can
    (colour_lies c.colour_word-word.ensures.index c.requires.mutators refl) refl

pub returns : goal.returns
returns g c =
    let step = c.collector_load-found.ensures.step in
    let m = made_of c.args.seat.now c.collector_load-found.new.seat
    c.collector_load-found.ensures.same step in
    let same = sym (c.colour_of.ensures.colour _ step.says) in
    record {
      told = tells_colour m _ c.colour_of.result same step.new;
      known = knows m (finds.Colour c.colour_of.result) (ap finds.Colour same) refl;
      collector = collectors (kept m c.requires.collector refl _ refl _ refl);
    }
