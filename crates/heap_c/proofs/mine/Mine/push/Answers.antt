use Rattle.std.proofs.Common.{subst}
use Rattle.heap_table.specs.Seats.{HeapId}
use Rattle.heap_c.specs.Holding.{Mutator, owned_by, turns_of}
use Rattle.heap_c.specs.Records.{PushesRoot}
use Rattle.heap_c.specs.declared.turns.Turns.{Turns}
use Rattle.heap_c.proofs.mine.Mine.push.Goals as goal

pub returns-clause-pushed : goal.returns-clause-pushed
returns-clause-pushed c =
    let code = c.push.result in
    let later = c.push.new.local in
    let inside = c.self.inside in
    let now = turns_of c.args.self.now in
    subst (λ (m : Mutator). PushesRoot now m.owned later c.args.val code) c.self.view_is
    (subst (λ (heap : HeapId). PushesRoot now (owned_by heap inside.seat inside.sorts inside.local)
    later c.args.val code) c.deref.ensures
    (subst (λ (t : Turns). PushesRoot t (owned_by c.deref.result.now inside.seat inside.sorts
    inside.local) later c.args.val code) c.turns-turns.ensures.turns c.push.ensures.pushed))
