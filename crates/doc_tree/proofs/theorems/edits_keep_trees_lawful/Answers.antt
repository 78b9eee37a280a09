use Rattle.doc_tree.proofs.Orderly.{attach_lawful, delete_lawful, lawful_empty, node_lawful}
use Rattle.doc_tree.proofs.Orderly.{set_text_lawful}
use Rattle.doc_tree.proofs.theorems.edits_keep_trees_lawful.Goals as goal

pub returns : goal.returns
returns c = record {
  opens = lawful_empty;
  node = node_lawful;
  set_text = set_text_lawful;
  attach = attach_lawful;
  delete = delete_lawful;
}
