use Rattle.std.proofs.Common.{refl, sym}
use Rattle.cell_heap.proofs.Changes.{sees}
use Rattle.cell_heap.proofs.InARow.{collectors}
use Rattle.cell_heap.proofs.Owed.{allowed}
use Rattle.cell_heap.proofs.Single.{known_of, seat_of, tells_of, told_on}
use Rattle.core_machine.specs.declared.events.Event.TheVariants as event
use Rattle.core_machine.specs.declared.events.Found.TheVariants as finds
use Rattle.cell_heap.proofs.seat.ColSeat.see.Goals as goal

pub see_at-colour-requires : goal.see_at-colour-requires
see_at-colour-requires g c =
    let is = c.self.invariant in
    record {
      seat = seat_of c.args.heap.now c.self.view_is c.requires.seat;
      collector = collectors is;
      mutators = sym is.mutators_are;
      can = allowed (event.See c.args.cell) c.self.view_is c.requires.can;
    }

pub invariant_of-self : goal.invariant_of-self
invariant_of-self g c =
    told_on (event.See c.args.cell) (finds.Colour c.see_at-colour.result) c.self.invariant
    c.see_at-colour.ensures.collector c.see_at-colour.ensures.told refl
    (sees c.self.invariant c.args.cell refl c.see.ensures.seen)

pub returns : goal.returns
returns g c =
    let found = finds.Colour c.see_at-colour.result in
    record {
      told = tells_of (event.See c.args.cell) found c.self.view_is c.see_at-colour.ensures.told;
      known = known_of (event.See c.args.cell) found c.self.view_is c.see_at-colour.ensures.known;
    }
