use Rattle.std.proofs.Common.{ap, refl, sym}
use Rattle.cell_heap.specs.declared.progress.Progress.{Progress}
use Rattle.cell_heap.proofs.InARow.{collectors}
use Rattle.cell_heap.proofs.Owed.{allowed}
use Rattle.cell_heap.proofs.Single.{known_of, seat_of, tells_of, told_on}
use Rattle.cell_words.specs.declared.controls.Control.{Control}
use Rattle.core_machine.specs.Collector.{control_after}
use Rattle.core_machine.specs.declared.events.Event.TheVariants as event
use Rattle.core_machine.specs.declared.events.Found.TheVariants as finds
use Rattle.core_machine.specs.declared.progress.Sweeping.TheVariants as sweeping
use Rattle.cell_heap.proofs.seat.ColSeat.advance.Goals as goal

pub advance_to-requires : goal.advance_to-requires
advance_to-requires g c =
    let is = c.self.invariant in
    record {
      seat = seat_of c.args.heap.now c.self.view_is c.requires.seat;
      collector = collectors is;
      control = ap (λ (x : Control). control_after x event.Advance) (sym is.control_is);
      can = allowed event.Advance c.self.view_is c.requires.can;
    }

pub invariant_of-self : goal.invariant_of-self
invariant_of-self g c =
    told_on event.Advance finds.Stored c.self.invariant c.advance_to.ensures.collector
    c.advance_to.ensures.told refl
    (ap (λ (p : Progress). record p { sweep = sweeping.Fresh }) c.self.invariant.progress_is)

pub returns : goal.returns
returns g c = record {
  told = tells_of event.Advance finds.Stored c.self.view_is c.advance_to.ensures.told;
  known = known_of event.Advance finds.Stored c.self.view_is c.advance_to.ensures.known;
}
