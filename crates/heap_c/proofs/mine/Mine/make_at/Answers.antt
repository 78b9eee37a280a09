use Rattle.std.proofs.Common.{subst}
use Rattle.heap_table.specs.Seats.{HeapId}
use Rattle.heap_c.specs.Holding.{Mutator, owned_by, turns_of}
use Rattle.heap_c.specs.Keeps.{MakesAbove}
use Rattle.heap_c.specs.declared.turns.Turns.{Turns}
use Rattle.heap_c.proofs.mine.Mine.make_at.Goals as goal

pub returns-clause-made : goal.returns-clause-made
returns-clause-made c =
    let code = c.make_at.result in
    let inside = c.self.inside in
    let seat = c.make_at.new.seat in
    let sorts = c.make_at.new.sorts in
    let later = owned_by inside.heap.value seat sorts inside.local in
    let now = turns_of c.args.self.now in
    subst (λ (m : Mutator). MakesAbove m.owned later now c.args.first c.args.vals.now code)
    c.self.view_is
    (subst (λ (heap : HeapId). MakesAbove (owned_by heap inside.seat inside.sorts inside.local)
    (owned_by heap seat sorts inside.local) now c.args.first c.args.vals.now code) c.deref.ensures
    (subst (λ (t : Turns). MakesAbove (owned_by c.deref.result.now inside.seat inside.sorts
    inside.local) (owned_by c.deref.result.now seat sorts inside.local) t c.args.first
    c.args.vals.now code) c.turns-turns.ensures.turns c.make_at.ensures.made))
