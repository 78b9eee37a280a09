use Rattle.std.proofs.Common.{◌≡◌, ap, sym, ◌∙◌}
use Rattle.doc_records.specs.declared.pool.Part.TheVariants as parts
use Rattle.client_trees.specs.Records.{field_of}
use Rattle.client_trees.specs.declared.at.NodeAt.{NodeAt}
use Rattle.client_trees.specs.declared.at.NodeAt.TheVariants as at
use Rattle.client_trees.proofs.pool.field_of.Goals as goal

pub returns-in-Record-Shared : goal.returns-in-Record-Shared
returns-in-Record-Shared c =
    let is : c.in-Record-Shared.field-0 ≡ at.Shared c.in-Record-Shared.place =
    rw c.in-Record-Shared.is at c.in-Record-Shared.field-0-is in
    sym (ap field_of c.in-Record-Shared.is
    ∙ ap (λ (a : NodeAt). field_of (parts.Record a)) is)
