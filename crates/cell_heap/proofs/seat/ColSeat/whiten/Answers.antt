use Rattle.std.proofs.Common.{refl, sym}
use Rattle.cell_heap.proofs.AtHand.{position_is}
use Rattle.cell_heap.proofs.Changes.{sweeps}
use Rattle.cell_heap.proofs.InARow.{collectors}
use Rattle.cell_heap.proofs.Owed.{allowed}
use Rattle.cell_heap.proofs.Single.{known_of, seat_of, tells_of, told_on}
use Rattle.core_machine.specs.declared.events.Event.TheVariants as event
use Rattle.core_machine.specs.declared.events.Found.TheVariants as finds
use Rattle.cell_heap.proofs.seat.ColSeat.whiten.Goals as goal

pub whiten_at-requires : goal.whiten_at-requires
whiten_at-requires g c =
    let is = c.self.invariant in
    record {
      seat = seat_of c.args.heap.now c.self.view_is c.requires.seat;
      collector = collectors is;
      mutators = sym is.mutators_are;
      position = sym (position_is is);
      can = allowed event.Whiten c.self.view_is c.requires.can;
    }

pub invariant_of-self : goal.invariant_of-self
invariant_of-self g c =
    told_on event.Whiten finds.Stored c.self.invariant c.whiten_at.ensures.collector
    c.whiten_at.ensures.told refl (sweeps c.self.invariant refl)

pub returns : goal.returns
returns g c = record {
  told = tells_of event.Whiten finds.Stored c.self.view_is c.whiten_at.ensures.told;
  known = known_of event.Whiten finds.Stored c.self.view_is c.whiten_at.ensures.known;
}
