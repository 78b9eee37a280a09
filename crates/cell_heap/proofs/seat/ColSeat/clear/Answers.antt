use Rattle.std.proofs.Common.{◌+◌, ap, refl, sym}
use Rattle.cell_heap.specs.declared.progress.Progress.{Progress}
use Rattle.cell_heap.proofs.InARow.{collectors}
use Rattle.cell_heap.proofs.Owed.{allowed}
use Rattle.cell_heap.proofs.Single.{colour_of, seat_of, told_on}
use Rattle.core_machine.specs.declared.events.Event.TheVariants as event
use Rattle.core_machine.specs.declared.events.Found.TheVariants as finds
use Rattle.cell_heap.proofs.seat.ColSeat.clear.Goals as goal

pub clear_at-requires : goal.clear_at-requires
clear_at-requires g c =
    let is = c.self.invariant in
    record {
      seat = seat_of c.args.heap.now c.self.view_is c.requires.seat;
      collector = collectors is;
      mutators = sym is.mutators_are;
      cell = sym (ap (λ (p : Progress). p.cursor) is.progress_is);
      can = allowed event.ClearCell c.self.view_is c.requires.can;
    }

pub invariant_of-self : goal.invariant_of-self
invariant_of-self g c =
    let told = c.clear_at.ensures.told in
    told_on event.ClearCell (finds.Colour told.found) c.self.invariant
    c.clear_at.ensures.collector told.told refl
    (ap (λ (p : Progress). record p { cursor = p.cursor + 1 }) c.self.invariant.progress_is)

pub returns : goal.returns
returns g c = record { told = colour_of event.ClearCell c.self.view_is c.clear_at.ensures.told }
