use Rattle.std.proofs.Common.{rules}
use Rattle.doc_tree.specs.Edits.{Gives, attach}
use Rattle.doc_tree.proofs.Orderly.{lawful_attach}
use Rattle.doc_tree.proofs.tree.Tree.attach.Goals as goal

pub returns-clause-lawful : goal.returns-clause-lawful
returns-clause-lawful c =
    let is : Gives c.within_limits.result (attach c.args.path.now c.args.sub.now c.args.self.now) =
    search rules in
    lawful_attach _ c.args.path.now c.args.sub.now c.args.self.now is
