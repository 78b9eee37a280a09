use Rattle.doc_model.proofs.Composes.{composes}
use Rattle.doc_model.proofs.theorems.merged_is_legal.Goals as goal

pub returns : goal.returns
returns c = record { legal = composes }
