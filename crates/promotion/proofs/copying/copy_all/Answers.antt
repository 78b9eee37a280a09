use Rattle.std.proofs.Common.{◌<◌, ◌+◌, ℕ, List, length, refl, sym, ◌∙◌, ap, subst}
use Rattle.std.proofs.Common.{◌≤◌, arith, take}
use Rattle.std.specs.Prelude.{Option, slice_set}
use Rattle.std.proofs.lemmas.List.{length-set}
use Rattle.free_cells.specs.Hints.{counts_of, queue_of}
use Rattle.minor_heap.specs.Terms.{terms_of}
use Rattle.mutator_seat.specs.Bound.{Bound}
use Rattle.mutator_seat.specs.Claims.{anything}
use Rattle.promotion.specs.Copying.{AreCopied, GrownBy, marked_count}
use Rattle.promotion.specs.Hinting.{KeepHints}
use Rattle.promotion.specs.Sharing.{known_terms}
use Rattle.promotion.proofs.Growing.{all_grown, copied_on, fields_ready, halted, none_copied}
use Rattle.promotion.proofs.Growing.{room_left, step_copied, step_passed, still_records}
use Rattle.promotion.proofs.Hinting.{CopiesBelow, all_below, copied_below, keep_all, keep_then}
use Rattle.promotion.proofs.Hinting.{none_below, passed_below}
use Rattle.promotion.proofs.Linked.{Copying, copying_none}
use Rattle.promotion.proofs.copying.copy_all.Goals as goal
use Rattle.promotion.proofs.copying.copy_all.Goals.{then-marks-number+in-Ok, else-marks-number}

pub loop-number-init : goal.loop-number-init
loop-number-init g c = (
  none_copied c.args.marks.now c.args.span c.args.m.now c.requires.within,
  refl,
  (λ k lt is. let l = (c.requires.within (record { number = k }) is).0 in
      absurd (omega (arith, lt, l))),
  refl,
  omega arith,
  copying_none (length c.args.m.now.seat.me.own.held) c.args.m.now,
  refl,
  keep_all c.args.taken.now,
  none_below c.args.taken.now c.args.marks.now c.args.span.first c.args.m.now
      (λ k is. (c.requires.within (record { number = k }) is).0),
)

pub copy_record-requires : goal.copy_record-requires
copy_record-requires g c =
    let so = c.loop-number.invariant in
    let n = c.loop-number.number in
    let stands : n < length c.args.minor.now.records =
    omega (arith, c.loop-number-test.true, c.requires.stands) in
    let is = c.if-marks-number.true in
    record {
      inside = so.0.grown.stays.inside ∙ c.requires.inside;
      room = room_left c.args.marks.now n (length c.args.minor.now.records) c.args.m.now
          c.loop-number.m stands c.requires.room so.0;
      stands = stands;
      older = omega (arith, stands, so.1, c.requires.places);
      ready = fields_ready c.args.m.now.seat.me.known c.loop-number.m.seat.me.known
          c.args.minor.now.records c.args.marks.now c.loop-number.places n
          c.requires.ordered stands
          (still_records anything c.args.m.now c.loop-number.m so.0.grown) so.2
          (λ i older lt names. c.requires.closed n i older lt is names)
          (λ i lt. c.requires.shares n i lt is);
    }

pub loop-number-preserved : goal.loop-number-preserved
loop-number-preserved g c =
    let so = c.loop-number.invariant in
    let n = c.loop-number.number in
    let records = c.args.minor.now.records in
    let marks = c.args.marks.now in
    let was = c.loop-number.places in
    let a = c.args.m.now in
    let terms = terms_of (known_terms a.seat.me.known) records in
    let stands : n < length records =
    omega (arith, c.loop-number-test.true, c.requires.stands) in
    let there : n < length was = omega (arith, stands, so.1, c.requires.places) in
    elim c.if-marks-number.branch [
      | then-marks-number+in-Ok w ↦
          let b = w.copy_record.new.m in
          let is = w.if-marks-number.true in
          let place = w.in-Ok.place in
          let step = step_copied a c.loop-number.m b records marks was n place
          c.requires.ordered stands there
          (λ i older lt names. c.requires.closed n i older lt is names)
          (λ i lt. c.requires.shares n i lt is) is so.0 so.2 w.in-Ok.ensures.got in (
            subst (λ (m : Bound _). GrownBy (marked_count (take (n + 1) marks)) a m) (sym w.m-is)
                step.0,
            ap (λ (ps : List ℕ). length ps) w.places-is ∙ length-set was n place ∙ so.1,
            subst (λ (ps : List ℕ).
                AreCopied c.if-marks-number.m.seat.me.known marks (n + 1) ps terms)
                (sym w.places-is)
                (subst (λ (m : Bound _). AreCopied m.seat.me.known marks (n + 1)
                (slice_set was n place) terms) (sym w.m-is) step.1),
            ap queue_of w.hints-is ∙ w.copy_record.ensures.queue
                ∙ w.hint_for-hint.ensures.queue ∙ so.3,
            subst (λ h. (counts_of c.args.hints.now).takes ≤ (counts_of h).takes)
                (sym w.hints-is)
                (omega (
                  arith,
                  w.hint_for-hint.ensures.takes,
                  w.copy_record.ensures.takes,
                  so.4,
                )),
            subst (λ (m : Bound _). Copying (length a.seat.me.own.held) a m) (sym w.m-is)
                (copied_on a c.loop-number.m b (marked_count (take n marks)) so.0 so.5
                w.copy_record.ensures.copies),
            ap (λ (l : List (Option ℕ)). length l) w.taken-is ∙ w.hint_for-hint.ensures.taken
                ∙ so.6,
            subst (λ (l : List (Option ℕ)). KeepHints c.args.taken.now l) (sym w.taken-is)
                (keep_then c.args.taken.now c.loop-number.taken w.hint_for-hint.new.taken so.7
                w.hint_for-hint.ensures.keeps),
            subst (λ (m : Bound _). CopiesBelow c.args.taken.now marks (n + 1) a m) (sym w.m-is)
                (copied_below c.args.taken.now w.hint_for-hint.new.taken marks n
                w.hint_for-hint.result a c.loop-number.m b
                (keep_then c.args.taken.now c.loop-number.taken w.hint_for-hint.new.taken so.7
                w.hint_for-hint.ensures.keeps) w.hint_for-hint.ensures.own is
                so.0.grown.stays.number so.0.grown.stays.shape so.8 w.in-Ok.ensures.tries),
          )
      | else-marks-number w ↦
          let step = step_passed a c.loop-number.m marks was terms n w.if-marks-number.false
          so.0 so.2 in (
            subst (λ (m : Bound _). GrownBy (marked_count (take (n + 1) marks)) a m) (sym w.m-is)
                step.0,
            ap (λ (ps : List ℕ). length ps) w.places-is ∙ so.1,
            subst (λ (ps : List ℕ).
                AreCopied c.if-marks-number.m.seat.me.known marks (n + 1) ps terms)
                (sym w.places-is)
                (subst (λ (m : Bound _). AreCopied m.seat.me.known marks (n + 1) was terms)
                (sym w.m-is) step.1),
            ap queue_of w.hints-is ∙ so.3,
            subst (λ h. (counts_of c.args.hints.now).takes ≤ (counts_of h).takes)
                (sym w.hints-is) so.4,
            subst (λ (m : Bound _). Copying (length a.seat.me.own.held) a m) (sym w.m-is) so.5,
            ap (λ (l : List (Option ℕ)). length l) w.taken-is ∙ so.6,
            subst (λ (l : List (Option ℕ)). KeepHints c.args.taken.now l) (sym w.taken-is) so.7,
            subst (λ (m : Bound _). CopiesBelow c.args.taken.now marks (n + 1) a m) (sym w.m-is)
                (passed_below c.args.taken.now marks n a c.loop-number.m w.if-marks-number.false
                so.8),
          )
    ]

pub returns-in-Err-clause-full : goal.returns-in-Err-clause-full
returns-in-Err-clause-full g c =
    halted c.args.m.now c.loop-number.m c.copy_record.new.m _ c.in-Err.full
    c.loop-number.invariant.0 c.in-Err.ensures.full

pub returns-in-Err-clause-copies : goal.returns-in-Err-clause-copies
returns-in-Err-clause-copies g c =
    copied_on c.args.m.now c.loop-number.m c.copy_record.new.m
    (marked_count (take c.loop-number.number c.args.marks.now)) c.loop-number.invariant.0
    c.loop-number.invariant.5 c.copy_record.ensures.copies

pub returns-clause-grown : goal.returns-clause-grown
returns-clause-grown g c =
    all_grown c.args.marks.now c.args.span c.loop-number.number c.args.m.now c.loop-number.m
    c.requires.within c.loop-number-test.false c.loop-number.invariant.0

pub returns-clause-copied : goal.returns-clause-copied
returns-clause-copied g c k lt is =
    c.loop-number.invariant.2 k (omega (arith, lt, c.loop-number-test.false)) is

pub returns-clause-tries : goal.returns-clause-tries
returns-clause-tries g c =
    let past = c.loop-number-test.false in
    all_below c.args.taken.now c.args.marks.now c.loop-number.number c.args.m.now c.loop-number.m
    (λ k is. let below = (c.requires.within (record { number = k }) is).1 in
    omega (arith, below, past)) c.loop-number.invariant.8
