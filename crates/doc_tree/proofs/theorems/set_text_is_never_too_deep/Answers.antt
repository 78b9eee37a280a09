use Rattle.doc_tree.proofs.Orderly.{set_text_shallow}
use Rattle.doc_tree.proofs.theorems.set_text_is_never_too_deep.Goals as goal

pub returns : goal.returns
returns c = record { shallow = set_text_shallow }
