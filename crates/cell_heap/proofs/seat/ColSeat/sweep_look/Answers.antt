use Rattle.std.proofs.Common.{refl, sym}
use Rattle.cell_heap.proofs.AtHand.{position_is}
use Rattle.cell_heap.proofs.Changes.{sweeps}
use Rattle.cell_heap.proofs.InARow.{collectors}
use Rattle.cell_heap.proofs.Owed.{allowed}
use Rattle.cell_heap.proofs.Single.{known_of, seat_of, tells_of, told_on}
use Rattle.core_machine.specs.declared.events.Event.TheVariants as event
use Rattle.core_machine.specs.declared.events.Found.TheVariants as finds
use Rattle.cell_heap.proofs.seat.ColSeat.sweep_look.Goals as goal

pub look_at-colour-requires : goal.look_at-colour-requires
look_at-colour-requires g c =
    let is = c.self.invariant in
    record {
      seat = seat_of c.args.heap.now c.self.view_is c.requires.seat;
      collector = collectors is;
      mutators = sym is.mutators_are;
      position = sym (position_is is);
      can = allowed event.SweepLook c.self.view_is c.requires.can;
    }

pub invariant_of-self : goal.invariant_of-self
invariant_of-self g c =
    told_on event.SweepLook (finds.Colour c.look_at-colour.result) c.self.invariant
    c.look_at-colour.ensures.collector c.look_at-colour.ensures.told refl
    (sweeps c.self.invariant (sym c.sweep_of-sweep.ensures.sweep))

pub returns : goal.returns
returns g c =
    let found = finds.Colour c.look_at-colour.result in
    record {
      told = tells_of event.SweepLook found c.self.view_is c.look_at-colour.ensures.told;
      known = known_of event.SweepLook found c.self.view_is c.look_at-colour.ensures.known;
      not_gray = c.look_at-colour.ensures.not_gray;
    }
