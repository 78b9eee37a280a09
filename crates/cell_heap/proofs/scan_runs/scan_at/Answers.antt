use Rattle.std.proofs.Common.{ap, refl, sym}
use Rattle.cell_heap.proofs.AtHand.{field_lies}
use Rattle.cell_heap.proofs.InARow.{collectors}
use Rattle.cell_heap.proofs.Kept.{kept}
use Rattle.cell_heap.proofs.Made.{finds_below, finds_valid, knows, made_of, tells_field}
use Rattle.cell_heap.proofs.Owed.{below, owes}
use Rattle.core_machine.specs.WordOperations.{Load}
use Rattle.core_machine.specs.declared.events.Event.TheVariants as event
use Rattle.core_machine.specs.declared.events.Found.TheVariants as finds
use Rattle.cell_heap.proofs.scan_runs.scan_at.Goals as goal

pub collector_load-found-requires-clause-word : goal.collector_load-found-requires-clause-word
collector_load-found-requires-clause-word g c =
    below {old = c.args.seat.now} {inside = c.args.seat.now} c.args.heap.now event.Scan refl
    c.requires.seat c.requires.collector refl c.requires.can
    (field_lies c.field_word-word.ensures.index c.requires.mutators c.requires.cell
    c.requires.field)

pub collector_load-found-requires-clause-kind : goal.collector_load-found-requires-clause-kind
collector_load-found-requires-clause-kind g c =
    owes {old = c.args.seat.now} {inside = c.args.seat.now} g.P.Keeping.fixed event.Scan
    c.field_word-word.result Load refl refl c.requires.can
    (field_lies c.field_word-word.ensures.index c.requires.mutators c.requires.cell
    c.requires.field) refl

pub returns : goal.returns
returns g c =
    let step = c.collector_load-found.ensures.step in
    let m = made_of c.args.seat.now c.collector_load-found.new.seat
    c.collector_load-found.ensures.same step in
    let same = sym (c.field_of.ensures.field _ (finds_valid m) step.says) in
    record {
      told = tells_field m _ c.field_of.result same step.new;
      known = knows m (finds.Field c.field_of.result) (ap finds.Field same) refl;
      below = finds_below m _ c.field_of.result
          (step.ours.shown.shaped.names_fit.fields_fit _ _) same;
      collector = collectors (kept m c.requires.collector refl _ refl _ refl);
    }
