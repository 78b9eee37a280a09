-- What an edit makes of the node at the end of its path.
-- Source: this project's.
use Rattle.doc_tree.specs.declared.tree.End.{End}
use Rattle.doc_tree.specs.declared.tree.End.TheVariants as ends
use Rattle.doc_tree.specs.Tree.{DocTree}
use Rattle.doc_tree.specs.Edits.{with_text}

abbrev pub tree_at_end : End → DocTree → DocTree
tree_at_end (ends.Text text) t = with_text text.now t
tree_at_end (ends.Tree tree) t = tree.now
