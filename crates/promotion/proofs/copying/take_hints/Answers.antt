use Rattle.std.proofs.Common.{◌≡◌, ◌<◌, ◌+◌, ℕ, suc, List, length, refl, sym, ap, ◌∙◌, subst}
use Rattle.std.proofs.Common.{arith, take}
use Rattle.std.specs.Prelude.{IfSome, Option}
use Rattle.std.proofs.lemmas.List.{length-set}
use Rattle.free_cells.specs.Hints.{cells_of, counts_of, queue_of}
use Rattle.free_cells.specs.declared.counts.Counts.{Counts}
use Rattle.free_cells.specs.declared.hints.Hints.{Hints}
use Rattle.free_cells.specs.declared.queue.FreeQueue.{FreeQueue}
use Rattle.mutator_seat.specs.Takes.{GiveAll, after_takes}
use Rattle.mutator_seat.proofs.Takes.{gave}
use Rattle.promotion.specs.Copying.{marked_count}
use Rattle.promotion.proofs.Counting.{count_all, count_before, count_set, count_unset, one_take}
use Rattle.promotion.proofs.Hinting.{below_all, below_none, below_passed, hints_below, put_more}
use Rattle.promotion.proofs.copying.take_hints.Goals as goal
use Rattle.promotion.proofs.copying.take_hints.Goals.{then-marks-number, else-marks-number}

pub loop-number-init : goal.loop-number-init
loop-number-init g c =
    let none = count_before c.args.marks.now c.args.span.first
    (λ k is. (c.requires.within (record { number = k }) is).0) in
    let first = below_none c.args.taken.now c.args.marks.now c.args.span.first
    (λ k is. (c.requires.within (record { number = k }) is).0) in
    let start = counts_of c.args.hints.now in (
      refl,
      refl,
      omega (arith, none),
      subst (λ (hs : List (Option ℕ)). GiveAll (cells_of (queue_of c.args.hints.now)) start hs)
          (sym first) tt,
      ap (λ (hs : List (Option ℕ)). after_takes start hs) (sym first),
    )

pub loop-number-preserved : goal.loop-number-preserved
loop-number-preserved g c =
    let so = c.loop-number.invariant in
    let n = c.loop-number.number in
    let marks = c.args.marks.now in
    let next : n + 1 ≡ suc n = omega arith in
    let further = ap (λ (k : ℕ). marked_count (take k marks)) next in
    elim c.if-marks-number.branch [
      | then-marks-number w ↦
          let one = one_take w.take.result _ _ w.take.ensures.counts in
          let more = further ∙ count_set marks n w.if-marks-number.true in
          let same = ap (λ (h : Hints). (counts_of h).takes) w.hints-is in
          let was = c.loop-number.taken in
          let got = gave (cells_of (queue_of c.args.hints.now)) (counts_of c.loop-number.hints)
          (counts_of w.take.new.self) w.take.result
          (subst (λ (q : FreeQueue). IfSome w.take.result (λ cell. cell < cells_of q)) so.1
          w.take.ensures.range) w.take.ensures.front w.take.ensures.empty w.take.ensures.counts in
          let put = put_more (cells_of (queue_of c.args.hints.now)) (counts_of c.args.hints.now)
          (counts_of c.loop-number.hints) (counts_of w.take.new.self) was marks n w.take.result
          (let past = c.loop-number-test.true in
          let room = c.requires.room in omega (arith, past, room, so.0)) w.if-marks-number.true
          so.3 so.4 got in (
            ap (λ (l : List (Option ℕ)). length l) w.taken-is
                ∙ length-set c.loop-number.taken n w.take.result ∙ so.0,
            ap queue_of w.hints-is ∙ w.take.ensures.queue ∙ so.1,
            omega (arith, same, one, more, so.2),
            subst (λ (l : List (Option ℕ)). GiveAll (cells_of (queue_of c.args.hints.now))
                (counts_of c.args.hints.now) (hints_below l marks (n + 1))) (sym w.taken-is) put.0,
            ap counts_of w.hints-is ∙ put.1
                ∙ ap (λ (l : List (Option ℕ)). after_takes (counts_of c.args.hints.now)
                (hints_below l marks (n + 1))) (sym w.taken-is),
          )
      | else-marks-number w ↦
          let more = further ∙ count_unset marks n w.if-marks-number.false in
          let now = ap (λ (l : List (Option ℕ)). hints_below l marks (n + 1)) w.taken-is
          ∙ below_passed c.loop-number.taken marks n w.if-marks-number.false in
          let same = ap (λ (h : Hints). (counts_of h).takes) w.hints-is in (
            ap (λ (l : List (Option ℕ)). length l) w.taken-is ∙ so.0,
            ap queue_of w.hints-is ∙ so.1,
            omega (arith, same, more, so.2),
            subst (λ (hs : List (Option ℕ)). GiveAll (cells_of (queue_of c.args.hints.now))
                (counts_of c.args.hints.now) hs) (sym now) so.3,
            ap counts_of w.hints-is ∙ so.4
                ∙ ap (λ (hs : List (Option ℕ)). after_takes (counts_of c.args.hints.now) hs)
                (sym now),
          )
    ]

pub returns-clause-takes : goal.returns-clause-takes
returns-clause-takes g c =
    let past = c.loop-number-test.false in
    let all = count_all c.args.marks.now c.loop-number.number (λ k is.
    let below = (c.requires.within (record { number = k }) is).1 in omega (arith, below, past)) in
    omega (
      arith,
      all,
      c.loop-number.invariant.2,
      ap (λ (x : Counts). x.takes) c.tell_demand.ensures.counts,
    )

pub returns-clause-given : goal.returns-clause-given
returns-clause-given g c =
    let past = c.loop-number-test.false in
    subst (λ (hs : List (Option ℕ)). GiveAll (cells_of (queue_of c.args.hints.now))
    (counts_of c.args.hints.now) hs)
    (below_all c.loop-number.taken c.args.marks.now c.loop-number.number (λ k is.
    let below = (c.requires.within (record { number = k }) is).1 in omega (arith, below, past)))
    c.loop-number.invariant.3
