use Rattle.std.proofs.Common.{◌≡◌, ◌<◌, ◌≤◌, ◌↔◌, ◌+◌, ◌-◌, Bool, List, length, sym, subst, arith}
use Rattle.std.specs.List.{Contains}
use Rattle.minor_heap.specs.declared.fields.MinorRef.{MinorRef}
use Rattle.minor_heap.specs.Marking.{with_refs}
use Rattle.minor_heap.specs.Nursery.{IsOrdered, Nursery}
use Rattle.minor_heap.specs.Reaches.{IsMarked, Reaches}
use Rattle.minor_heap.specs.Spans.{AreFrom}
use Rattle.minor_heap.proofs.Passing.{MarksFrom, exactly, marks_named, marks_within}
use Rattle.minor_heap.proofs.Reached.{reached_of}
use Rattle.minor_heap.proofs.Spanning.{named_below, roots_below, roots_from, roots_start}
use Rattle.minor_heap.proofs.heap.MinorHeap.mark_span.Goals as goal

pub loop-first-init : goal.loop-first-init
loop-first-init c =
    let records = c.args.self.now.records in
    let from = c.args.from.now in
    let was = c.args.marks.now in
    let now = c.mark_all.ensures.marks in
    let none = c.requires.none in
    let room = c.requires.room in
    let stand = c.requires.stand in
    let end = c.span_of-roots.result.end in
    let count : length records ≤ length (with_refs from was) =
    subst (λ (ms : List Bool). length records ≤ length ms) now
    (omega (arith, room)) in
    record {
      so = subst (λ (ms : List Bool). MarksFrom records (Contains from) ms end) (sym now)
          (roots_start records from was none room stand end count c.span_of-roots.ensures.last);
      from = subst (λ (ms : List Bool). AreFrom c.span_of-roots.result.first ms) (sym now)
          (roots_from records from was none room stand c.span_of-roots.result.first
          c.span_of-roots.ensures.first);
      below = subst (λ (ms : List Bool). (r : MinorRef) → IsMarked ms r → r.number < end) (sym now)
          (roots_below records from was none room stand end c.span_of-roots.ensures.last);
      number = omega arith;
    }

pub loop-first-preserved-then-marks-number : goal.loop-first-preserved-then-marks-number
loop-first-preserved-then-marks-number c =
    let records = c.args.self.now.records in
    let ordered =
    subst (λ (n : Nursery). IsOrdered 0 n.records) c.self.view_is c.self.invariant.ordered in
    let so = c.loop-first.invariant in
    let n = c.loop-first.number in
    let end = c.span_of-roots.result.end in
    let next : n ≡ n - 1 + 1 = omega (arith, c.loop-first-test.true) in
    let lt : n - 1 < end = omega (arith, c.loop-first-test.true, so.number) in
    let stands : n - 1 < length records =
    omega (arith, lt, c.span_of-roots.ensures.end, c.len.ensures.count) in
    let now = c.mark_older-first.ensures.marks in
    record {
      so = subst (λ (ms : List Bool). MarksFrom records (Contains c.args.from.now) ms (n - 1))
          (sym now)
          (marks_named records (Contains c.args.from.now) c.loop-first.marks (n - 1) n next ordered
          stands c.if-marks-number.true so.so);
      from = c.mark_older-first.ensures.from;
      below = subst (λ (ms : List Bool). (r : MinorRef) → IsMarked ms r → r.number < end) (sym now)
          (named_below records c.loop-first.marks (n - 1) end ordered stands lt so.below);
      number = omega (arith, lt);
    }

-- at the end each record that is reached is marked, and no other
all : (c : goal.After-loop-first) → (r : MinorRef)
    → IsMarked c.loop-first.marks r ↔ Reaches c.args.self.now.records (Contains c.args.from.now) r
all c =
    let so = c.loop-first.invariant in
    exactly c.args.self.now.records (Contains c.args.from.now) c.loop-first.marks
    (marks_within c.args.self.now.records (Contains c.args.from.now) c.loop-first.marks
    c.loop-first.number
    (λ r is. let l = so.from r is in omega (arith, l, c.loop-first-test.false)) so.so)

pub returns-clause-marks : goal.returns-clause-marks
returns-clause-marks c = all c

pub returns-clause-reached : goal.returns-clause-reached
returns-clause-reached c =
    reached_of c.args.self.now.records c.args.from.now c.loop-first.marks (all c)

pub returns-clause-within : goal.returns-clause-within
returns-clause-within c r is = (c.loop-first.invariant.from r is, c.loop-first.invariant.below r is)
