use Rattle.std.proofs.Common.{◌≡◌, ◌++◌, drop}
use Rattle.doc_tree.specs.Tree.{names_of}
use Rattle.doc_tree.specs.Chunks.{kids_of}
use Rattle.doc_tree.proofs.kids.names_of.Given as goal

abbrev pub invariant-loop-chunk : goal.invariant-loop-chunk
invariant-loop-chunk l = l.names ++ names_of (kids_of (drop l.chunk-index l.chunks))
    ≡ names_of (kids_of l.chunks)
