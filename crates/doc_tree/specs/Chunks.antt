-- What a list of chunks shows, and in which of them a name belongs.
-- Source: this project's: children lie in chunks (docs/DECISIONS.md).
use Rattle.std.specs.Prelude.{◌≡◌, ◌<◌, ℕ, zero, suc, List, [], ◌∷◌, length, get_or, MatchResult}
use Rattle.std.specs.declared.rc.Rc.{Rc}
use Rattle.std.specs.declared.alloc.Global.{Global}
use Rattle.doc_tree.specs.declared.chunk.Chunk.{Chunk}
use Rattle.doc_tree.specs.declared.kids.Place.{Place}
use Rattle.doc_tree.specs.Tree.{Kids, no_kids, nodes_below, height_below, IsAbove}
use Rattle.doc_tree.specs.Rows.{as_u64, as_u32, row_of, join, IsBelow, IsHere, IsGap}

abbrev pub kids_of : List (Rc Chunk Global) → Kids
kids_of [] = no_kids
kids_of (c ∷ cs) = join (row_of c.value.row.items) (kids_of cs)

-- a chunk has a kid, and keeps what its kids count up to
pub record IsChunk (c : Chunk) : Type 0 where
  pub some : 0 < length c.row.items
  pub counted : c.nodes ≡ as_u64 (nodes_below (row_of c.row.items))
  pub high : c.levels ≡ as_u32 (height_below (row_of c.row.items))

abbrev pub AreChunks : List (Rc Chunk Global) → Type 0
AreChunks [] = Unit {0}
AreChunks (c ∷ cs) = IsChunk c.value × AreChunks cs

-- the children with these in the place of those of one chunk
abbrev pub with_row : List (Rc Chunk Global) → ℕ → Kids → Kids
with_row [] at new = no_kids
with_row (c ∷ cs) zero new = join new (kids_of cs)
with_row (c ∷ cs) (suc at) new = join (row_of c.value.row.items) (with_row cs at new)

-- a child of that name is in this chunk, or in none
abbrev pub IsIn : List ℕ → List (Rc Chunk Global) → ℕ → Type 0
IsIn n [] at = ⊥
IsIn n (c ∷ cs) zero = IsAbove n (kids_of cs)
IsIn n (c ∷ cs) (suc at) = IsBelow n (row_of c.value.row.items) × IsIn n cs at

-- a place among chunks is that of a name: its chunk is the one where the name belongs, and in the
-- row of that one the child of that name stands there, or would go there
pub record IsPlace (n : List ℕ) (cs : List (Rc Chunk Global)) (p : Place) : Type 0 where
  pub chunk : 0 < length cs → IsIn n cs p.chunk
  pub kid : (c : Rc Chunk Global) → p.chunk < length cs → c ≡ get_or cs p.chunk c
      → MatchResult p.kid (IsHere n (row_of c.value.row.items)) (IsGap n (row_of c.value.row.items))
