use Rattle.std.proofs.Common.{◌≡◌, ◌<◌, ◌≤◌, ◌+◌, ◌∙◌, ℕ, List, Bool, true, false, length, refl, sym, ap}
use Rattle.std.proofs.Common.{subst, arith}
use Rattle.std.specs.Prelude.{slice_index_or}
use Rattle.heap_table.specs.Seats.{SeatView}
use Rattle.mutator_seat.specs.Bound.{IsBound, bound}
use Rattle.mutator_seat.specs.Claims.{Seeking, anything}
use Rattle.promotion.specs.Copying.{GrownBy}
use Rattle.promotion.proofs.Growing.{grown_more, grown_none, still_records}
use Rattle.record_copying.specs.Copies.{AreCopies, KeepCopies}
use Rattle.record_copying.proofs.Slicing.{done_more, grown_calm, grown_room, names_older, up_to_most}
use Rattle.record_copying.proofs.Standing.{all_share_still, keep_none, keep_then}
use Rattle.record_copying.proofs.slices.copy_marked.Goals as goal
use Rattle.record_copying.proofs.slices.copy_marked.Goals.{then-is_due+else-count-most+in-Some, else-is_due}

pub loop-number-init : goal.loop-number-init
loop-number-init g c = (
  c.requires.seat,
  omega arith,
  grown_none (bound c.args.heap.now c.args.seat.now),
  c.requires.copies,
  keep_none c.args.copied.now c.args.places.now,
  refl,
  refl,
  (λ k lt is. let l = (c.requires.within (record { number = k }) is).0 in
      absurd (omega (arith, lt, l))),
  refl,
)

pub copy_one-requires-clause-room : goal.copy_one-requires-clause-room
copy_one-requires-clause-room g c =
    let so = c.loop-number.invariant in
    grown_room (bound c.args.heap.now c.args.seat.now) (bound c.args.heap.now c.loop-number.seat)
    c.loop-number.count c.args.most so.2 c.requires.room
    (omega (arith, c.if-count-most.false, so.1))

pub copy_one-requires-clause-shares : goal.copy_one-requires-clause-shares
copy_one-requires-clause-shares g c =
    all_share_still c.args.seat.now.me.known c.loop-number.seat.me.known c.args.minor.now.records
    c.requires.shares
    (still_records anything (bound c.args.heap.now c.args.seat.now)
    (bound c.args.heap.now c.loop-number.seat) c.loop-number.invariant.2.grown)

pub copy_one-requires-clause-older : goal.copy_one-requires-clause-older
copy_one-requires-clause-older g c i older lt names =
    let n = c.loop-number.number in
    c.loop-number.invariant.7 older.number
    (names_older c.args.minor.now.records n i older c.requires.ordered
    (omega (arith, c.loop-number-test.true, c.requires.stands)) names)
    (c.requires.closed n i older lt (c.is_due.ensures.marked c.if-is_due.true) names)

pub returns-in-None-clause-grown : goal.returns-in-None-clause-grown
returns-in-None-clause-grown g c =
    let a = bound c.args.heap.now c.args.seat.now in
    let b = bound c.args.heap.now c.loop-number.seat in
    let d = bound c.args.heap.now c.copy_one.new.seat in
    let so = c.loop-number.invariant in
    up_to_most a d c.loop-number.count c.args.most so.1
    (grown_calm Seeking a b d c.loop-number.count so.2 c.in-None.ensures.none)

pub loop-number-preserved : goal.loop-number-preserved
loop-number-preserved g c =
    let heap = c.args.heap.now in
    let a = bound heap c.args.seat.now in
    let b = bound heap c.loop-number.seat in
    let so = c.loop-number.invariant in
    let n = c.loop-number.number in
    let records = c.args.minor.now.records in
    let marks = c.args.marks.now in
    let first = c.args.copied.now in
    let places = c.args.places.now in
    let refusals = g.C.RawCells.refusals in
    let Now : SeatView _ → ℕ → List Bool → List ℕ → ℕ → Type 0 =
    λ s count later further refused. IsBound heap s × (count ≤ c.args.most) × GrownBy count a (bound heap s)
    × AreCopies s.me.known records later further × KeepCopies first places later further
    × (length later ≡ length first) × (length further ≡ length places)
    × ((k : ℕ) → k < n + 1 → slice_index_or marks k false ≡ true
    → slice_index_or later k false ≡ true) × (refused ≡ refusals c.args.cells.now) in
    let here = c.if-is_due in
    elim c.if-is_due.branch [
      | then-is_due+else-count-most+in-Some w ↦
          let step = w.copy_one.ensures in
          let d = bound heap w.copy_one.new.seat in
          subst
          (λ (s : SeatView _). Now s here.count here.copied here.places (refusals here.cells))
          (sym w.seat-is)
          (subst
          (λ (m : ℕ). Now w.copy_one.new.seat m here.copied here.places (refusals here.cells))
          (sym w.count-is)
          (subst (λ (cs : List Bool).
          Now w.copy_one.new.seat (c.loop-number.count + 1) cs here.places (refusals here.cells))
          (sym w.copied-is)
          (subst (λ (ps : List ℕ).
          Now w.copy_one.new.seat (c.loop-number.count + 1) w.copy_one.new.copied ps
          (refusals here.cells))
          (sym w.places-is) (
            step.seat,
            omega (arith, w.if-count-most.false, so.1),
            grown_more a b d c.loop-number.count _ _ so.2 w.in-Some.ensures.got,
            step.copies,
            keep_then first c.loop-number.copied w.copy_one.new.copied places c.loop-number.places
                w.copy_one.new.places so.4 step.keeps,
            step.copied ∙ so.5,
            step.places ∙ so.6,
            done_more marks w.copy_one.new.copied n
                (λ k lt is. (step.keeps k (so.7 k lt is)).0) (λ _. w.in-Some.ensures.there),
            ap refusals w.cells-is ∙ w.in-Some.ensures.given ∙ so.8,
          ))))
      | else-is_due w ↦
          subst
          (λ (s : SeatView _). Now s here.count here.copied here.places (refusals here.cells))
          (sym w.seat-is)
          (subst
          (λ (m : ℕ). Now c.loop-number.seat m here.copied here.places (refusals here.cells))
          (sym w.count-is)
          (subst (λ (cs : List Bool).
          Now c.loop-number.seat c.loop-number.count cs here.places (refusals here.cells))
          (sym w.copied-is)
          (subst (λ (ps : List ℕ).
          Now c.loop-number.seat c.loop-number.count c.loop-number.copied ps (refusals here.cells))
          (sym w.places-is) (
            so.0,
            so.1,
            so.2,
            so.3,
            so.4,
            so.5,
            so.6,
            done_more marks c.loop-number.copied n so.7
                (λ is. c.is_due.ensures.done w.if-is_due.false is),
            ap refusals w.cells-is ∙ so.8,
          ))))
    ]

pub returns-clause-done : goal.returns-clause-done
returns-clause-done g c _ k is =
    let last = (c.requires.within (record { number = k }) is).1 in
    c.loop-number.invariant.7 k (omega (arith, last, c.loop-number-test.false)) is
