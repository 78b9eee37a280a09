use Rattle.std.proofs.Common.{arith}
use Rattle.doc_records.specs.Trees.{tree_of}
use Rattle.doc_edits.proofs.Along.{limit_deep}
use Rattle.doc_edits.proofs.Sized.{own_levels}
use Rattle.doc_edits.proofs.edits.within_limits.Goals as goal

pub returns-then-read_number-from-clause-tree : goal.returns-then-read_number-from-clause-tree
returns-then-read_number-from-clause-tree g c =
    let root = (g.R.RecordPool.shown c.args.records.now).term c.args.root in
    limit_deep (tree_of root) (omega (arith, own_levels root c.requires.node.node))
