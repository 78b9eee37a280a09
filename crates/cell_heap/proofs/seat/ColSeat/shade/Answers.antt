use Rattle.std.proofs.Common.{◌∙◌, ap, refl, sym}
use Rattle.cell_heap.proofs.AtHand.{scan_is}
use Rattle.cell_heap.proofs.Changes.{shades}
use Rattle.cell_heap.proofs.InARow.{collectors}
use Rattle.cell_heap.proofs.Owed.{allowed}
use Rattle.cell_heap.proofs.Single.{colour_of, seat_of, told_on}
use Rattle.core_machine.specs.Tracing.{child_or_anchor}
use Rattle.core_machine.specs.declared.events.Event.TheVariants as event
use Rattle.core_machine.specs.declared.events.Found.TheVariants as finds
use Rattle.core_machine.specs.declared.progress.Scanning.{Scanning}
use Rattle.cell_heap.proofs.seat.ColSeat.shade.Goals as goal

pub shade_at-requires : goal.shade_at-requires
shade_at-requires g c =
    let is = c.self.invariant in
    let at = scan_is is c.scan_or_none-scan.ensures.scan in
    record {
      seat = seat_of c.args.heap.now c.self.view_is c.requires.seat;
      collector = collectors is;
      mutators = sym is.mutators_are;
      child = c.child_or_anchor-child.ensures.child
          ∙ sym (ap (λ (s : Scanning). child_or_anchor s.child) at);
      can = allowed event.Shade c.self.view_is c.requires.can;
    }

pub invariant_of-self : goal.invariant_of-self
invariant_of-self g c =
    let told = c.shade_at.ensures.told in
    told_on event.Shade (finds.Colour told.found) c.self.invariant c.shade_at.ensures.collector
    told.told refl
    (shades c.self.invariant (allowed event.Shade c.self.view_is c.requires.can)
    c.scan_or_none-scan.ensures.scan c.scan_shaded-further.ensures.scan)

pub returns : goal.returns
returns g c = record { told = colour_of event.Shade c.self.view_is c.shade_at.ensures.told }
