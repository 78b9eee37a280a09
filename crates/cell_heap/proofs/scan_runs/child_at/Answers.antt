use Rattle.std.proofs.Common.{Option, Some, None, [], ◌∷◌, refl, sym, ◌∙◌, ap, arith}
use Rattle.cell_words.specs.declared.fields.Field.TheVariants as field
use Rattle.core_machine.specs.Tracing.{child_or_anchor, may_shade, scan_or_none}
use Rattle.core_machine.specs.declared.events.Event.TheVariants as event
use Rattle.core_machine.specs.declared.events.Found.TheVariants as finds
use Rattle.core_machine.specs.declared.progress.Scanning.{Scanning}
use Rattle.heap_table.specs.Seats.{SeatView}
use Rattle.heap_rule.specs.Rule.{took}
use Rattle.cell_heap.proofs.InARow.{still_of}
use Rattle.cell_heap.proofs.Scanned.{at_next_field, may_load, scan_loaded, scans_child, scans_none}
use Rattle.cell_heap.proofs.scan_runs.child_at.Goals as goal

pub scan_at-requires : goal.scan_at-requires
scan_at-requires g c =
    let at = c.requires.at in
    record {
      seat = at.seat_is;
      collector = at.collector;
      mutators = at.mutators_are;
      cell = sym (ap (λ (s : Option Scanning). (scan_or_none s).cell) at.scan_is);
      field = sym (ap (λ (s : Option Scanning). (scan_or_none s).next) at.scan_is);
      there = omega (arith, c.requires.there);
      can = may_load c.args.cell c.args.field _ c.requires.there at.scan_is;
    }

pub shade_at-requires : goal.shade_at-requires
shade_at-requires g c =
    let at = c.requires.at in
    let told = c.in-Cell.ensures.told in
    let scan = scan_loaded c.args.seat.now c.scan_at.new.seat c.args.cell c.args.field
    (field.Cell c.in-Cell.child) at.scan_is told in
    record {
      seat = still_of c.args.heap.now c.args.seat.now c.scan_at.new.seat
          (took event.Scan (finds.Field (field.Cell c.in-Cell.child)) ∷ []) at.seat_is
          (c.in-Cell.ensures.known, told);
      collector = c.in-Cell.ensures.collector;
      mutators = at.mutators_are ∙ sym (ap (λ (x : SeatView _). x.me.shape.mutators) told);
      child = sym (ap (λ (s : Option Scanning). child_or_anchor (scan_or_none s).child) scan);
      can = ap (λ (s : Option Scanning). may_shade s) scan;
    }

pub returns-in-Null : goal.returns-in-Null
returns-in-Null g c =
    let one = scans_none c.args.seat.now c.scan_at.new.seat c.args.cell c.args.field field.Null
    refl refl c.requires.at.scan_is c.in-Null.ensures.told c.in-Null.ensures.known in
    record {
      scanned = one;
      at = at_next_field c.args.heap.now c.args.mutators c.args.cell c.args.field None
          c.args.seat.now c.scan_at.new.seat c.requires.at one c.in-Null.ensures.collector;
    }

pub returns-in-Num : goal.returns-in-Num
returns-in-Num g c =
    let one = scans_none c.args.seat.now c.scan_at.new.seat c.args.cell c.args.field
    (field.Num c.in-Num.field-0) refl refl c.requires.at.scan_is c.in-Num.ensures.told
    c.in-Num.ensures.known in
    record {
      scanned = one;
      at = at_next_field c.args.heap.now c.args.mutators c.args.cell c.args.field None
          c.args.seat.now c.scan_at.new.seat c.requires.at one c.in-Num.ensures.collector;
    }

pub returns-in-Cell : goal.returns-in-Cell
returns-in-Cell g c =
    let shade = c.shade_at.ensures.told in
    let one = scans_child c.args.seat.now c.scan_at.new.seat c.shade_at.new.seat c.args.cell
    c.args.field c.in-Cell.child shade.found c.requires.at.scan_is c.in-Cell.ensures.told
    c.in-Cell.ensures.known c.in-Cell.ensures.below shade.told shade.known in
    record {
      scanned = one;
      at = at_next_field c.args.heap.now c.args.mutators c.args.cell c.args.field
          (Some c.in-Cell.child) c.args.seat.now c.shade_at.new.seat c.requires.at one
          c.shade_at.ensures.collector;
    }
