use Rattle.std.proofs.Common.{◌≡◌, ◌+◌, drop}
use Rattle.doc_tree.specs.Tree.{kid_count}
use Rattle.doc_tree.specs.Chunks.{kids_of}
use Rattle.doc_tree.proofs.kids.count.Given as goal

abbrev pub invariant-loop-chunk : goal.invariant-loop-chunk
invariant-loop-chunk l = l.count + kid_count (kids_of (drop l.chunk-index l.chunks))
    ≡ kid_count (kids_of l.chunks)
