use Rattle.doc_model.proofs.Keeping.{puts_shallow}
use Rattle.doc_model.proofs.theorems.puts_are_never_too_deep.Goals as goal

pub returns : goal.returns
returns c = record { shallow = puts_shallow }
