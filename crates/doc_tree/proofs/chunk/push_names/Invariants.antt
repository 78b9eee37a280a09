use Rattle.std.proofs.Common.{◌≡◌, ◌++◌, drop}
use Rattle.doc_tree.specs.Tree.{names_of}
use Rattle.doc_tree.specs.Rows.{row_of}
use Rattle.doc_tree.proofs.chunk.push_names.Given as goal

abbrev pub invariant-loop-kid : goal.invariant-loop-kid
invariant-loop-kid l = l.names ++ names_of (row_of (drop l.kid-index l.row))
    ≡ l.fn.names ++ names_of (row_of l.row)
