use Rattle.std.proofs.Common.{ap, ◌∙◌, List, Ok, Result, ℕ}
use Rattle.doc_tree.specs.declared.edit.EditFault.{EditFault}
use Rattle.doc_tree.specs.Edits.{delete}
use Rattle.doc_tree.specs.Tree.{DocTree}
use Rattle.doc_records.specs.Trees.{tree_of}
use Rattle.doc_edits.proofs.Lawful.{deleted_lawful}
use Rattle.doc_edits.proofs.removals.delete.Goals as goal

pub returns-in-Ok-clause-node : goal.returns-in-Ok-clause-node
returns-in-Ok-clause-node g c =
    let t = tree_of ((g.R.RecordPool.shown c.args.records.now).term c.args.root) in
    let edit : List (List ℕ) → Result DocTree EditFault = λ path. delete path t in
    deleted_lawful (g.R.RecordPool.shown c.delete_along.new.records) (Ok c.in-Ok.node)
    c.args.path.now t (c.in-Ok.ensures.tree ∙ ap edit c.names.ensures.names)
    c.requires.node.lawful c.in-Ok.ensures.node
