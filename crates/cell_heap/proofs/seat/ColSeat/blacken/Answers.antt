use Rattle.std.proofs.Common.{None, ap, refl, sym}
use Rattle.cell_heap.specs.declared.progress.Progress.{Progress}
use Rattle.cell_heap.proofs.AtHand.{scan_is}
use Rattle.cell_heap.proofs.InARow.{collectors}
use Rattle.cell_heap.proofs.Owed.{allowed}
use Rattle.cell_heap.proofs.Single.{known_of, seat_of, tells_of, told_on}
use Rattle.core_machine.specs.declared.events.Event.TheVariants as event
use Rattle.core_machine.specs.declared.events.Found.TheVariants as finds
use Rattle.core_machine.specs.declared.progress.Scanning.{Scanning}
use Rattle.cell_heap.proofs.seat.ColSeat.blacken.Goals as goal

pub blacken_at-requires : goal.blacken_at-requires
blacken_at-requires g c =
    let is = c.self.invariant in
    record {
      seat = seat_of c.args.heap.now c.self.view_is c.requires.seat;
      collector = collectors is;
      mutators = sym is.mutators_are;
      cell = sym (ap (λ (s : Scanning). s.cell) (scan_is is c.scan_or_none-scan.ensures.scan));
      can = allowed event.Blacken c.self.view_is c.requires.can;
    }

pub invariant_of-self : goal.invariant_of-self
invariant_of-self g c =
    told_on event.Blacken finds.Stored c.self.invariant c.blacken_at.ensures.collector
    c.blacken_at.ensures.told refl
    (ap (λ (p : Progress). record p { scan = None }) c.self.invariant.progress_is)

pub returns : goal.returns
returns g c = record {
  told = tells_of event.Blacken finds.Stored c.self.view_is c.blacken_at.ensures.told;
  known = known_of event.Blacken finds.Stored c.self.view_is c.blacken_at.ensures.known;
}
