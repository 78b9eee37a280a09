-- What every `Tree` keeps of its children, and the two numbers that it keeps with them.
-- Source: this project's.
use Rattle.std.specs.Prelude.{◌≡◌, ℕ, ◌+◌, ◌≤◌, List}
use Rattle.std.specs.declared.rc.Rc.{Rc}
use Rattle.std.specs.declared.alloc.Global.{Global}
use Rattle.doc_tree.specs.declared.chunk.Chunk.{Chunk}
use Rattle.doc_tree.specs.declared.tree.TheConstants.Tree.{MOST_CHILDREN}
use Rattle.doc_tree.specs.Tree.{kid_count, nodes_below, height_below, IsRising}
use Rattle.doc_tree.specs.Rows.{as_u64, as_u32}
use Rattle.doc_tree.specs.Chunks.{kids_of, AreChunks}

pub record IsSound (cs : List (Rc Chunk Global)) (nodes levels : ℕ) : Type 0 where
  pub chunks : AreChunks cs
  pub rising : IsRising (kids_of cs)
  pub few : kid_count (kids_of cs) ≤ MOST_CHILDREN
  pub counted : nodes ≡ as_u64 (nodes_below (kids_of cs) + 1)
  pub high : levels ≡ as_u32 (height_below (kids_of cs))
