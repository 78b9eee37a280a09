use Rattle.std.proofs.Common.{refl}
use Rattle.cell_heap.proofs.AtHand.{at_cell}
use Rattle.cell_heap.proofs.Kept.{kept}
use Rattle.cell_heap.proofs.Made.{knows, made, tells}
use Rattle.cell_heap.proofs.Owed.{below, exchanges, owes}
use Rattle.core_machine.specs.WordOperations.{Exchange}
use Rattle.core_machine.specs.declared.events.Event.TheVariants as event
use Rattle.core_machine.specs.declared.events.Found.TheVariants as finds
use Rattle.cell_heap.proofs.seat.ColSeat.anchor.Goals as goal

pub collector_exchange-requires-clause-word : goal.collector_exchange-requires-clause-word
collector_exchange-requires-clause-word g c =
    below c.args.heap.now event.Anchor c.self.view_is c.requires.seat c.self.invariant refl
    c.requires.can
    (at_cell c.self.invariant 0 c.colour_word-word.ensures.index)

pub collector_exchange-requires-clause-kind : goal.collector_exchange-requires-clause-kind
collector_exchange-requires-clause-kind g c =
    owes g.P.Keeping.fixed event.Anchor c.colour_word-word.result
    (Exchange c.pack_colour-old.result c.pack_colour-new.result)
    c.self.view_is refl c.requires.can
    (at_cell c.self.invariant 0 c.colour_word-word.ensures.index)
    (exchanges c.pack_colour-old.result c.pack_colour-new.result _ _
    c.pack_colour-old.ensures.word c.pack_colour-new.ensures.word)

pub invariant_of-self : goal.invariant_of-self
invariant_of-self g c =
    let step = c.collector_exchange.ensures.step in
    let m = made c.self.view_is c.collector_exchange.ensures.same step in
    kept m c.self.invariant refl _ refl _
    c.self.invariant.progress_is

pub returns : goal.returns
returns g c =
    let step = c.collector_exchange.ensures.step in
    let m = made c.self.view_is c.collector_exchange.ensures.same step in
    record {
      told = record {
        found = _;
        known = knows m (finds.Colour _) refl refl;
        told = tells m (finds.Colour _) step.new;
      };
    }
