use Rattle.std.proofs.Common.{subst, sym}
use Rattle.local_records.specs.Local.{IsLocal, Local}
use Rattle.local_records.proofs.Keeping.{local_aged}
use Rattle.local_records.proofs.Naming.{roots_kept}
use Rattle.local_records.proofs.local.LocalRecords.age.Goals as goal

pub returns-in-Ok-clause-local : goal.returns-in-Ok-clause-local
returns-in-Ok-clause-local c known so =
    let me = c.self.inside in
    let was = subst (λ (l : Local). IsLocal l known) (sym c.self.view_is) so in
    local_aged known me.named me.nursery.heap.records me.table.copied
    me.table.places me.stack.roots was c.age.new.nursery.heap.records
    c.forget.new.self.copied c.age.new.self.roots c.forget.new.self.places
    c.in-Ok.ensures.named c.forget.ensures.none
    (roots_kept me.named me.nursery.heap.records c.age.new.nursery.heap.records
    me.stack.roots c.age.new.self.roots c.in-Ok.ensures.keep was.below)
