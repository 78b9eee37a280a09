use Rattle.std.proofs.Common.{arith}
use Rattle.doc_edits.proofs.edits.edit.Goals as goal

pub returns-in-Err-clause-refused : goal.returns-in-Err-clause-refused
returns-in-Err-clause-refused g c = omega arith
