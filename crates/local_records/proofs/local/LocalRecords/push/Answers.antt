use Rattle.std.proofs.Common.{All, List, ap, length, subst, sym}
use Rattle.local_references.specs.declared.roots.Root.{Root}
use Rattle.local_references.specs.Roots.{Stack}
use Rattle.local_records.specs.Local.{IsLocal, IsRootBelow, Local}
use Rattle.local_records.proofs.Keeping.{local_roots}
use Rattle.local_records.proofs.Naming.{root_wider, roots_pushed}
use Rattle.local_records.proofs.local.LocalRecords.push.Goals as goal

pub returns-in-Ok-clause-local : goal.returns-in-Ok-clause-local
returns-in-Ok-clause-local c known so le =
    let me = c.self.inside in
    let was = subst (λ (l : Local). IsLocal l known) (sym c.self.view_is) so in
    let step = c.named_with-self-inside.ensures in
    let next = c.named_with-self-inside.result in
    let within = step.least (length known) was.within
    (root_wider c.args.held (length known) c.args.root le c.requires.there) in
    local_roots known me.named me.nursery.heap.records me.table.copied
    me.table.places me.stack.roots was next step.more within
    c.push.new.self.roots
    (subst (λ (xs : List Root). All (IsRootBelow next) xs)
    (sym (ap (λ (s : Stack). s.roots) c.in-Ok.ensures.pushed))
    (roots_pushed me.named next me.stack.roots c.args.root step.more
    was.below step.below))
