use Rattle.std.proofs.Common.{◌<◌, ◌∙◌, ℕ, length, refl, sym, subst}
use Rattle.std.specs.Prelude.{slice_index_or}
use Rattle.std.proofs.lemmas.List.Elements.{All-get_or}
use Rattle.minor_heap.specs.declared.fields.MinorRef.{MinorRef}
use Rattle.mutator_events.proofs.HeldCells.{cells_many}
use Rattle.mutator_seat.specs.Bound.{bound}
use Rattle.promotion.proofs.Holding.{appended_next, appended_none}
use Rattle.record_copying.proofs.settling.hold_copies.Goals as goal

pub loop-r-init : goal.loop-r-init
loop-r-init g c = (c.requires.seat, appended_none (bound c.args.heap.now c.args.seat.now))

pub loop-r-preserved : goal.loop-r-preserved
loop-r-preserved g c =
    let roots = c.args.roots.now in
    let places = c.args.places.now in
    let was = bound c.args.heap.now c.args.seat.now in
    let now = bound c.args.heap.now c.loop-r.seat in
    let i = c.loop-r.r-index in
    let d : MinorRef = record { number = 0 } in
    let held = length was.seat.me.own.held in
    let there = All-get_or (λ (r : MinorRef). slice_index_or places r.number 0 < held) roots i d
    c.loop-r-test.true c.requires.there in (
      c.keep.ensures.seat,
      appended_next was now (bound c.args.heap.now c.keep.new.seat) roots d
          (slice_index_or roots i d) (λ r. slice_index_or places r.number 0) i
          c.held_len-held.result (cells_many was.seat.me.own.held ∙ c.requires.fit)
          (subst (λ (n : ℕ). slice_index_or places (slice_index_or roots i d).number 0 < n)
          (sym (cells_many was.seat.me.own.held)) there) c.loop-r-test.true refl
          c.held_len-held.ensures.len c.loop-r.invariant.1 c.keep.ensures.told,
    )
