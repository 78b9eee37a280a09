use Rattle.std.proofs.Common.{◌≡◌, ◌+◌, ◌-◌, ◌^◌, ◌≤◌, drop, max}
use Rattle.doc_tree.specs.Tree.{nodes_below, height_below}
use Rattle.doc_tree.specs.Chunks.{kids_of, AreChunks}
use Rattle.doc_tree.specs.Rows.{as_u64, as_u32}
use Rattle.doc_tree.proofs.kids.sizes.Given as goal

-- what was added up, with what is still to come
abbrev pub invariant-loop-chunk : goal.invariant-loop-chunk
invariant-loop-chunk l = record {
  chunks : AreChunks (drop l.chunk-index l.chunks);
  nodes_fit : l.nodes ≤ 2 ^ 64 - 1;
  levels_fit : l.levels ≤ 2 ^ 32 - 1;
  nodes : as_u64 (l.nodes + nodes_below (kids_of (drop l.chunk-index l.chunks)))
      ≡ as_u64 (nodes_below (kids_of l.chunks) + 1);
  levels : as_u32 (max l.levels (height_below (kids_of (drop l.chunk-index l.chunks))))
      ≡ as_u32 (height_below (kids_of l.chunks));
}
