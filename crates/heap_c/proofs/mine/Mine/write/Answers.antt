use Rattle.std.proofs.Common.{subst}
use Rattle.heap_table.specs.Seats.{HeapId}
use Rattle.heap_c.specs.Calls.{WritesField}
use Rattle.heap_c.specs.Holding.{Mutator, held_by, turns_of}
use Rattle.heap_c.specs.declared.turns.Turns.{Turns}
use Rattle.heap_c.proofs.mine.Mine.write.Goals as goal

pub returns-clause-wrote : goal.returns-clause-wrote
returns-clause-wrote c =
    let code = c.write.result in
    let inside = c.self.inside in
    let later = held_by inside.heap.value c.write.new.seat inside.sorts in
    let now = turns_of c.args.self.now in
    subst (λ (m : Mutator). WritesField now m.owned.held later c.args.place c.args.field c.args.val
    code) c.self.view_is
    (subst (λ (heap : HeapId). WritesField now (held_by heap inside.seat inside.sorts)
    (held_by heap c.write.new.seat inside.sorts) c.args.place c.args.field c.args.val code)
    c.deref.ensures
    (subst (λ (t : Turns). WritesField t (held_by c.deref.result.now inside.seat inside.sorts)
    (held_by c.deref.result.now c.write.new.seat inside.sorts) c.args.place c.args.field c.args.val
    code) c.turns-turns.ensures.turns c.write.ensures.wrote))
