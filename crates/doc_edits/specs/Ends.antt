-- What an edit makes at the end of its path.
-- Source: this project's.
use Rattle.doc_tree.specs.Edits.{with_text}
use Rattle.doc_tree.specs.Tree.{DocTree}
use Rattle.doc_records.specs.Pool.{Shown}
use Rattle.doc_records.specs.Trees.{tree_of}
use Rattle.doc_edits.specs.declared.edits.End.{End}
use Rattle.doc_edits.specs.declared.edits.End.TheVariants as ends
use Rattle.doc_edits.specs.Tops.{IsTreeAt}

-- the tree that is made of the one that stands there
abbrev pub made_at : {At F : Type 0} → Shown At F → End At → DocTree → DocTree
made_at s (ends.Text text) t = with_text text.now t
made_at s (ends.Node a) t = tree_of (s.term a)

-- a node that is put at the end stands
abbrev pub StandsAtEnd : {At F : Type 0} → Shown At F → End At → Type 0
StandsAtEnd s (ends.Text text) = Unit {0}
StandsAtEnd s (ends.Node a) = IsTreeAt s a
