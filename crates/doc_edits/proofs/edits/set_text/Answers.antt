use Rattle.std.proofs.Common.{ap, ◌∙◌, List, Result, ℕ}
use Rattle.doc_tree.specs.declared.edit.EditFault.{EditFault}
use Rattle.doc_tree.specs.Edits.{set_text}
use Rattle.doc_tree.specs.Tree.{DocTree}
use Rattle.doc_records.specs.Trees.{tree_of}
use Rattle.doc_edits.proofs.Lawful.{text_lawful}
use Rattle.doc_edits.proofs.edits.set_text.Goals as goal

pub returns-clause-tree : goal.returns-clause-tree
returns-clause-tree g c =
    let t = tree_of ((g.R.RecordPool.shown c.args.records.now).term c.args.root) in
    let edit : List (List ℕ) → Result DocTree EditFault = λ path. set_text path c.args.text.now t in
    c.edit.ensures.tree ∙ ap edit c.names.ensures.names

pub returns-clause-node : goal.returns-clause-node
returns-clause-node g c =
    let t = tree_of ((g.R.RecordPool.shown c.args.records.now).term c.args.root) in
    let edit : List (List ℕ) → Result DocTree EditFault = λ path. set_text path c.args.text.now t in
    text_lawful (g.R.RecordPool.shown c.edit.new.records) c.edit.result c.args.path.now
    c.args.text.now t (c.edit.ensures.tree ∙ ap edit c.names.ensures.names) c.requires.node.lawful
    c.edit.ensures.node
