-- Nodes of lawful trees as roots of versions: each is a record, and the first root is one.
-- Source: this project's.
use Rattle.std.proofs.Common.{◌≡◌, refl}
use Rattle.cell_words.specs.Term.{IsFive, Term, five, null, num}
use Rattle.doc_records.specs.Trees.{IsTreeNode, tree_of}
use Rattle.doc_records.proofs.Makings.{empty_made}
use Rattle.doc_tree.specs.Tree.{empty}
use Rattle.version_rule.specs.Spelling.{bare_root}

pub node_is_record : (t : Term) → IsTreeNode t → IsFive t
node_is_record null is = absurd is.node
node_is_record (num n) is = absurd is.node
node_is_record (five a b c d e) is = tt

pub bare_is_node : IsTreeNode bare_root
bare_is_node = empty_made bare_root refl

pub bare_is_empty : tree_of bare_root ≡ empty
bare_is_empty = refl
