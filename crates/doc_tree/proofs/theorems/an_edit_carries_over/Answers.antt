use Rattle.doc_tree.proofs.Grafts.{attach_along, delete_along, node_agrees, set_text_along}
use Rattle.doc_tree.proofs.theorems.an_edit_carries_over.Goals as goal

pub returns : goal.returns
returns c = record {
  set_text = set_text_along;
  attach = attach_along;
  delete = delete_along;
  node = node_agrees;
}
