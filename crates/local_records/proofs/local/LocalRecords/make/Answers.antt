use Rattle.std.proofs.Common.{◌++◌, ◌∷◌, ◌∙◌, [], List, ap, length, subst, sym}
use Rattle.minor_heap.specs.declared.fields.MinorField.{MinorField}
use Rattle.minor_heap.specs.Nursery.{Nursery}
use Rattle.minor_heap.specs.Record.{fields_of}
use Rattle.local_records.specs.Local.{AreLocal, IsLocal, Local}
use Rattle.local_records.proofs.Keeping.{local_made}
use Rattle.local_records.proofs.Naming.{fields_known}
use Rattle.local_records.proofs.local.LocalRecords.make.Goals as goal

pub returns-in-Ok-clause-local : goal.returns-in-Ok-clause-local
returns-in-Ok-clause-local c known so shares =
    let me = c.self.inside in
    let was = subst (λ (l : Local). IsLocal l known) (sym c.self.view_is) so in
    let fields = fields_of c.args.kinds c.args.words in
    let step = c.name_places.ensures in
    let next = c.name_places.new.named in
    let within = step.least (length known) was.within
    (fields_known known fields shares) in
    subst
    (λ (rs : List (List MinorField)).
    AreLocal known next rs me.table.copied me.table.places me.stack.roots)
    (sym (c.in-Ok.ensures.records
    ∙ ap (λ (h : Nursery). h.records ++ fields ∷ []) c.heap_mut.ensures.heap))
    (local_made known me.named me.nursery.heap.records me.table.copied
    me.table.places me.stack.roots was next step.more within fields
    shares step.below)
