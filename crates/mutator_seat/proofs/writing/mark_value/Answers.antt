use Rattle.std.proofs.Common.{◌≡◌, true, [], ◌∷◌, refl, sym, ap, subst}
use Rattle.core_machine.specs.declared.events.Event.TheVariants as event
use Rattle.core_machine.specs.declared.events.Found.TheVariants as finds
use Rattle.core_machine.specs.Places.{cell_at, is_marked_value}
use Rattle.heap_table.specs.Seats.{SeatView}
use Rattle.mutator_seat.specs.Bound.{bound}
use Rattle.mutator_seat.specs.Stretches.{MarksOf}
use Rattle.mutator_seat.proofs.Calm.{calm_one, kept_mark}
use Rattle.mutator_seat.proofs.Writes.{value_still}
use Rattle.mutator_seat.proofs.writing.mark_value.Goals as goal

pub returns-in-Held-clause-calm : goal.returns-in-Held-clause-calm
returns-in-Held-clause-calm g c =
    let heap = c.args.heap.now in
    let was = bound heap c.args.seat.now in
    let told = c.mark.ensures.told in
    rw c.in-Held.is
    (calm_one (MarksOf was.seat.me.number (c.in-Held.place ∷ [])) was (bound heap c.mark.new.self)
    (event.Mark was.seat.me.number c.in-Held.place) (finds.Colour told.0)
    (ap (λ (s : SeatView _). bound heap s) told.1)
    (kept_mark was was.seat.me.number c.in-Held.place (finds.Colour told.0)) refl)

pub returns-in-Held-clause-still : goal.returns-in-Held-clause-still
returns-in-Held-clause-still g c = λ other marked.
    let held = c.args.seat.now.me.own.held in
    subst (λ (s : SeatView _). is_marked_value s.me.own.held other ≡ true)
    (sym c.mark.ensures.told.1)
    (value_still (cell_at held c.in-Held.place) held other marked)
