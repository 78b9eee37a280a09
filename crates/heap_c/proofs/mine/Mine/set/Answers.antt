use Rattle.std.proofs.Common.{subst}
use Rattle.heap_table.specs.Seats.{HeapId}
use Rattle.heap_c.specs.Holding.{Mutator, owned_by, turns_of}
use Rattle.heap_c.specs.Records.{SetsRoot}
use Rattle.heap_c.specs.declared.turns.Turns.{Turns}
use Rattle.heap_c.proofs.mine.Mine.set.Goals as goal

pub returns-clause-set : goal.returns-clause-set
returns-clause-set c =
    let code = c.set.result in
    let later = c.set.new.local in
    let inside = c.self.inside in
    let now = turns_of c.args.self.now in
    subst (λ (m : Mutator). SetsRoot now m.owned later c.args.i c.args.val code) c.self.view_is
    (subst (λ (heap : HeapId). SetsRoot now (owned_by heap inside.seat inside.sorts inside.local)
    later c.args.i c.args.val code) c.deref.ensures
    (subst (λ (t : Turns). SetsRoot t (owned_by c.deref.result.now inside.seat inside.sorts
    inside.local) later c.args.i c.args.val code) c.turns-turns.ensures.turns c.set.ensures.set))
