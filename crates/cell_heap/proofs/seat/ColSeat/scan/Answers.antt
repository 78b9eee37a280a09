use Rattle.std.proofs.Common.{ap, refl, subst, sym}
use Rattle.cell_heap.proofs.AtHand.{scan_is}
use Rattle.cell_heap.proofs.Changes.{scans}
use Rattle.cell_heap.proofs.InARow.{collectors}
use Rattle.cell_heap.proofs.Owed.{allowed, next_there}
use Rattle.cell_heap.proofs.Single.{known_of, seat_of, tells_of, told_on}
use Rattle.core_machine.specs.InRange.{NamesBelow}
use Rattle.core_machine.specs.declared.events.Event.TheVariants as event
use Rattle.core_machine.specs.declared.events.Found.TheVariants as finds
use Rattle.core_machine.specs.declared.progress.Scanning.{Scanning}
use Rattle.heap_table.specs.Seats.{SeatView}
use Rattle.cell_heap.proofs.seat.ColSeat.scan.Goals as goal

pub scan_at-field-requires : goal.scan_at-field-requires
scan_at-field-requires g c =
    let is = c.self.invariant in
    let can = allowed event.Scan c.self.view_is c.requires.can in
    let at = scan_is is c.scan_or_none-scan.ensures.scan in
    record {
      seat = seat_of c.args.heap.now c.self.view_is c.requires.seat;
      collector = collectors is;
      mutators = sym is.mutators_are;
      cell = sym (ap (λ (s : Scanning). s.cell) at);
      field = sym (ap (λ (s : Scanning). s.next) at);
      there = next_there c.self.inside.seat.me.part.scan _ at can;
      can = can;
    }

pub invariant_of-self : goal.invariant_of-self
invariant_of-self g c =
    told_on event.Scan (finds.Field c.scan_at-field.result) c.self.invariant
    c.scan_at-field.ensures.collector c.scan_at-field.ensures.told refl
    (scans c.self.invariant (allowed event.Scan c.self.view_is c.requires.can)
    c.scan_or_none-scan.ensures.scan refl c.scanned-further.ensures.scan)

pub returns : goal.returns
returns g c =
    let found = finds.Field c.scan_at-field.result in
    record {
      told = tells_of event.Scan found c.self.view_is c.scan_at-field.ensures.told;
      known = known_of event.Scan found c.self.view_is c.scan_at-field.ensures.known;
      below = subst (λ (s : SeatView _). NamesBelow s.me.shape.cells c.scan_at-field.result)
          c.self.view_is c.scan_at-field.ensures.below;
    }
