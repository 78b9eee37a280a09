use Rattle.doc_export.proofs.Copying.{left_lasts}
use Rattle.doc_export.proofs.guest.nodes_of.Goals as goal

pub returns-clause-lasts : goal.returns-clause-lasts
returns-clause-lasts c =
    left_lasts c.args.m.now c.tree-root.new.m c.count.new.m c.args.minor.now c.count.new.minor
    c.count.ensures.leaves c.tree-root.ensures.lasts
