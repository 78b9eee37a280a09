use Rattle.std.proofs.Common.{List, subst, sym}
use Rattle.minor_heap.specs.declared.fields.MinorRef.{MinorRef}
use Rattle.minor_heap.specs.Reaches.{root}
use Rattle.aged_nursery.specs.Survivors.{AreSurvivors}
use Rattle.aged_nursery.proofs.Surviving.{closed_of, survivors_of}
use Rattle.aged_nursery.proofs.copies.copy_reached.Goals as goal

pub copy_marked-requires-clause-closed : goal.copy_marked-requires-clause-closed
copy_marked-requires-clause-closed c =
    closed_of c.args.heap.now.records c.args.roots.now c.mark_span-span.new.marks
    c.mark_span-span.ensures.ordered c.requires.stand c.mark_span-span.ensures.marks

pub returns-clause-survivors : goal.returns-clause-survivors
returns-clause-survivors c =
    let old = c.args.heap.now.records in
    let from = c.args.roots.now in
    let marks = c.mark_span-span.new.marks in
    let new = c.copy_marked.new.other.records in
    let closed = closed_of old from marks c.mark_span-span.ensures.ordered c.requires.stand
    c.mark_span-span.ensures.marks in
    subst (λ (to : List MinorRef). AreSurvivors old from new to) (sym c.move_refs.ensures.moved)
    (survivors_of old marks c.copy_marked.new.numbers new c.mark_span-span.ensures.ordered
    c.copy_marked.ensures.ordered closed c.copy_marked.ensures.copied from
    (λ r is. (c.mark_span-span.ensures.marks r).1 (root is)) c.mark_span-span.ensures.reached
    c.copy_marked.ensures.many c.copy_marked.ensures.fewer)
