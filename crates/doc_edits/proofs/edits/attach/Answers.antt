use Rattle.std.proofs.Common.{ap, ◌∙◌, List, Result, ℕ}
use Rattle.doc_tree.specs.declared.edit.EditFault.{EditFault}
use Rattle.doc_tree.specs.Edits.{attach}
use Rattle.doc_tree.specs.Tree.{DocTree}
use Rattle.doc_records.specs.Trees.{tree_of}
use Rattle.doc_edits.proofs.Lawful.{attached_lawful}
use Rattle.doc_edits.proofs.edits.attach.Goals as goal

pub returns-clause-tree : goal.returns-clause-tree
returns-clause-tree g c =
    let term = (g.R.RecordPool.shown c.args.records.now).term in
    let edit : List (List ℕ) → Result DocTree EditFault =
    λ path. attach path (tree_of (term c.args.sub)) (tree_of (term c.args.root)) in
    c.edit.ensures.tree ∙ ap edit c.names.ensures.names

pub returns-clause-node : goal.returns-clause-node
returns-clause-node g c =
    let term = (g.R.RecordPool.shown c.args.records.now).term in
    let edit : List (List ℕ) → Result DocTree EditFault =
    λ path. attach path (tree_of (term c.args.sub)) (tree_of (term c.args.root)) in
    attached_lawful (g.R.RecordPool.shown c.edit.new.records) c.edit.result c.args.path.now
    (tree_of (term c.args.sub)) (tree_of (term c.args.root))
    (c.edit.ensures.tree ∙ ap edit c.names.ensures.names) c.requires.sub.lawful
    c.requires.node.lawful c.edit.ensures.node
