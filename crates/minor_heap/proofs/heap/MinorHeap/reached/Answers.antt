use Rattle.std.proofs.Common.{◌≡◌, ◌↔◌, Bool, List, subst}
use Rattle.std.proofs.Common.{sym, ◌∙◌, length, arith}
use Rattle.std.specs.List.{Contains}
use Rattle.minor_heap.specs.declared.fields.MinorRef.{MinorRef}
use Rattle.minor_heap.specs.Reaches.{AreReached, IsMarked, Reaches}
use Rattle.minor_heap.proofs.Reached.{reached_of, taken}
use Rattle.minor_heap.proofs.heap.MinorHeap.reached.Goals as goal

pub returns : goal.returns
returns c =
    let records = c.args.self.now.records in
    let from = c.args.from.now in
    let marks = c.mark_from.new.marks in
    let count : c.in_ok-marks.marks.len ≡ length marks =
    omega (arith, c.mark_from.ensures.length, c.as_mut_slice.ensures.len) in
    let same : marks
    ≡ c.as_slice.result.now = sym (c.as_slice.ensures.value ∙ taken marks _ _ count) in
    let all =
    subst (λ (m : List Bool). (r : MinorRef) → IsMarked m r ↔ Reaches records (Contains from) r)
    same c.mark_from.ensures.marks in
    let found = reached_of records from c.as_slice.result.now all in
    record {
      reached =
          subst (λ (rs : List MinorRef). AreReached records from rs)
          (sym c.in_ok-found.ensures.marked) found;
    }
