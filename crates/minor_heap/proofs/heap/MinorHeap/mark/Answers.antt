use Rattle.std.proofs.Common.{◌≡◌, ◌<◌, ◌+◌, ◌-◌, ℕ, List, length, sym, subst, arith, Bool}
use Rattle.minor_heap.specs.Nursery.{IsOrdered, Nursery}
use Rattle.minor_heap.specs.Reaches.{IsMarked}
use Rattle.minor_heap.proofs.Passing.{MarksFrom, exactly, marks_named, marks_start}
use Rattle.minor_heap.proofs.heap.MinorHeap.mark.Goals as goal

pub loop-number-init : goal.loop-number-init
loop-number-init c =
    let records = c.args.self.now.records in
    let count = c.len-number.ensures.count in
    let marks = c.args.marks.now in
    let start = marks_start records marks c.requires.length in (
      subst (λ (n : ℕ). MarksFrom records (IsMarked marks) marks n) (sym count) start,
      omega (arith, count),
    )

pub loop-number-preserved-then-marks-number : goal.loop-number-preserved-then-marks-number
loop-number-preserved-then-marks-number c =
    let records = c.args.self.now.records in
    let ordered =
    subst (λ (n : Nursery). IsOrdered 0 n.records) c.self.view_is c.self.invariant.ordered in
    let n = c.loop-number.number in
    let next : n ≡ n - 1 + 1 = omega (arith, c.loop-number-test.true) in
    let stands : n - 1 < length records =
    omega (arith, c.loop-number-test.true, c.loop-number.invariant.1) in
    let now =
    marks_named records _ _ (n - 1) n next ordered stands c.if-marks-number.true
    c.loop-number.invariant.0 in (
      subst (λ (m : List Bool). MarksFrom records (IsMarked c.args.marks.now) m (n - 1))
          (sym c.mark_named.ensures.marks) now,
      omega (arith, c.loop-number.invariant.1),
    )

pub returns-clause-marks : goal.returns-clause-marks
returns-clause-marks c =
    let records = c.args.self.now.records in
    let done : c.loop-number.number ≡ 0 = omega (arith, c.loop-number-test.false) in
    exactly records _ _
    (subst (λ (n : ℕ). MarksFrom records (IsMarked c.args.marks.now) c.loop-number.marks n) done
    c.loop-number.invariant.0)
