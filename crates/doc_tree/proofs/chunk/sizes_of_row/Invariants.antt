use Rattle.std.proofs.Common.{◌≡◌, ◌+◌, ◌-◌, ◌^◌, ◌≤◌, drop, max}
use Rattle.doc_tree.specs.Tree.{nodes_below, height_below}
use Rattle.doc_tree.specs.Rows.{row_of, as_u64, as_u32}
use Rattle.doc_tree.proofs.chunk.sizes_of_row.Given as goal

-- what was added up, with what is still to come
abbrev pub invariant-loop-kid : goal.invariant-loop-kid
invariant-loop-kid l = record {
  nodes_fit : l.nodes ≤ 2 ^ 64 - 1;
  levels_fit : l.levels ≤ 2 ^ 32 - 1;
  nodes : as_u64 (l.nodes + nodes_below (row_of (drop l.kid-index l.row)))
      ≡ as_u64 (nodes_below (row_of l.row));
  levels : as_u32 (max l.levels (height_below (row_of (drop l.kid-index l.row))))
      ≡ as_u32 (height_below (row_of l.row));
}
