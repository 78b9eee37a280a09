-- Every tree below a node has fewer nodes than the node's own tree, so that a recursion ends.
-- Source: this project's.
use Rattle.std.specs.Prelude.{◌≡◌, ◌+◌, ◌≤◌, List, [], ◌∷◌}
use Rattle.std.proofs.Common.{arith}
use Rattle.std.specs.declared.rc.Rc.{Rc}
use Rattle.std.specs.declared.alloc.Global.{Global}
use denote.Param.Weighed.{most}
use Rattle.doc_tree.specs.declared.chunk.Chunk.{Chunk}
use Rattle.doc_tree.specs.declared.chunk.Kid.{Kid}
use Rattle.doc_tree.specs.declared.tree.Tree.TheShapes.{weighed-Tree-kids-at-1}
use Rattle.doc_tree.specs.declared.tree.Tree.TheShapes.{weighed-Chunk-row-at-1}
use Rattle.doc_tree.specs.declared.tree.Tree.TheDeep.{deep-Chunk, deep-Kid}
use Rattle.doc_tree.specs.Tree.{Kids, no_kids, kid, nodes_below}
use Rattle.doc_tree.specs.Rows.{row_of, join}
use Rattle.doc_tree.specs.Chunks.{kids_of}

pub nodes_join : (l r : Kids) → nodes_below (join l r) ≡ nodes_below l + nodes_below r
nodes_join no_kids r = omega arith
nodes_join (kid name text inside rest) r = omega (arith, nodes_join rest r)

most-row_of : (ks : List (Rc Kid Global))
    → most (λ x. weighed-Chunk-row-at-1.weight Kid deep-Kid x) ks ≤ nodes_below (row_of ks) + 1
most-row_of [] = omega arith
most-row_of (k ∷ ks) = omega (arith, most-row_of ks)

pub most-kids_of : (cs : List (Rc Chunk Global))
    → most (λ x. weighed-Tree-kids-at-1.weight Chunk deep-Chunk x) cs ≤ nodes_below (kids_of cs) + 1
most-kids_of [] = omega arith
most-kids_of (c ∷ cs) =
    omega (
      arith,
      most-row_of c.value.row.items,
      nodes_join (row_of c.value.row.items) (kids_of cs),
      most-kids_of cs,
    )
