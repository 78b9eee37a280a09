use Rattle.std.proofs.Common.{◌<◌, ◌+◌, length, refl, sym, ◌∙◌, ap, subst, arith}
use Rattle.std.proofs.lemmas.List.{length-map}
use Rattle.core_machine.specs.declared.events.Event.TheVariants as event
use Rattle.core_machine.specs.declared.events.Found.TheVariants as finds
use Rattle.core_machine.specs.Places.{cell_at, mark_of}
use Rattle.heap_table.specs.Seats.{SeatView}
use Rattle.mutator_seat.specs.Bound.{IsBound, bound}
use Rattle.mutator_seat.specs.Stretches.{are_marks}
use Rattle.mutator_seat.proofs.Calm.{calm_none, calm_one, calm_then, kept_mark}
use Rattle.mutator_seat.proofs.Marks.{MarkedBelow, all_of, marked_more, marks_join}
use Rattle.mutator_seat.proofs.looking.mark_all.Goals as goal

pub loop-place-init : goal.loop-place-init
loop-place-init g c = (
  calm_none are_marks (bound c.args.heap.now c.args.seat.now) refl,
  refl,
  refl,
  refl,
  λ k lt. absurd (omega (arith, lt)),
  c.requires.seat,
)

pub loop-place-preserved : goal.loop-place-preserved
loop-place-preserved g c =
    let heap = c.args.heap.now in
    let was = bound heap c.loop-place.seat in
    let after = bound heap c.mark.new.self in
    let held = was.seat.me.own.held in
    let told = c.mark.ensures.told in
    let kept = c.loop-place.invariant in
    let there : c.loop-place.place < length held
    = omega (arith, c.loop-place-test.true, c.held_len-place-end.ensures.len, kept.3) in (
      calm_then are_marks are_marks are_marks (bound heap c.args.seat.now) was after marks_join
          kept.0
          (calm_one are_marks was after
          (event.Mark was.seat.me.number c.loop-place.place) (finds.Colour told.0)
          (ap (λ (s : SeatView _). bound heap s) told.1)
          (kept_mark was was.seat.me.number c.loop-place.place (finds.Colour told.0)) refl),
      ap (λ (s : SeatView _). s.me.own.mode) told.1 ∙ kept.1,
      ap (λ (s : SeatView _). s.me.presence) told.1 ∙ kept.2,
      ap (λ (s : SeatView _). length s.me.own.held) told.1
          ∙ length-map held (mark_of (cell_at held c.loop-place.place)) ∙ kept.3,
      subst (λ (s : SeatView _). MarkedBelow (c.loop-place.place + 1) s.me.own.held)
          (sym told.1) (marked_more held c.loop-place.place there kept.4),
      subst (λ (s : SeatView _). IsBound heap s) (sym told.1)
          (record {
            seat_is = kept.5.seat_is;
            settled = kept.5.settled;
            not_over = kept.5.not_over;
          }),
    )

pub returns-clause-marked : goal.returns-clause-marked
returns-clause-marked g c =
    let kept = c.loop-place.invariant in
    all_of c.loop-place.seat.me.own.held (λ k lt. kept.4 k
    (omega (arith, lt, c.loop-place-test.false, c.held_len-place-end.ensures.len, kept.3)))
