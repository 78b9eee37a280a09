use Rattle.std.proofs.Common.{ap, arith, sym}
use Rattle.heap_c.specs.Keeping.{Keeps}
use Rattle.heap_c.proofs.Unsplit.{split_keeps}
use Rattle.heap_c.proofs.collecting.Collecting.split.Goals as goal

pub invariant_of-self-2 : goal.invariant_of-self-2
invariant_of-self-2 c =
    let given = ap (λ (k : Keeps). k.given) c.self.view_is in
    let many = ap (λ (k : Keeps). k.heap.shape.mutators) c.self.view_is in
    split_keeps _ _ _ _ _ _ _ _ _ c.in-Some.is (sym c.works.view_is) c.self.invariant
    c.in_ok-seat.ensures.left (omega (arith, c.requires.left, given, many))
