use Rattle.std.proofs.Common.{◌↔◌, Bool, List, ap, sym, subst, length, ◌∙◌, false}
use Rattle.std.specs.List.{Contains}
use Rattle.std.proofs.lemmas.List.{length-replicate}
use Rattle.minor_heap.specs.declared.fields.MinorRef.{MinorRef}
use Rattle.minor_heap.specs.Marking.{with_refs}
use Rattle.minor_heap.specs.Reaches.{IsMarked}
use Rattle.minor_heap.proofs.Reached.{from_marks, refs_marked}
use Rattle.minor_heap.proofs.heap.MinorHeap.mark_from.Goals as goal

pub returns-clause-marks : goal.returns-clause-marks
returns-clause-marks c =
    let count = length c.args.self.now.records in
    let blank = c.requires.unmarked in
    let first = c.mark_all.ensures.marks ∙ ap (with_refs c.args.from.now) blank in
    let roots = refs_marked count c.args.from.now c.requires.stand (length-replicate count false) in
    from_marks _ _ _ _
    (subst (λ (m : List Bool). (r : MinorRef) → IsMarked m r ↔ Contains c.args.from.now r)
    (sym first) roots) c.mark.ensures.marks
