-- A pool of entries in memory: what an entry holds, and the trees of a list of entries, the oldest
-- first. A child is a number, and says a leaf with that number for its text.
-- Source: this project's.
use Rattle.std.specs.Prelude.{◌≡◌, ℕ, ◌+◌, ◌-◌, ◌<◌, ◌≤◌, List, [], ◌∷◌, ◌++◌, length}
use Rattle.std.specs.Prelude.{slice_index_or, Option, None}
use Rattle.doc_tree.specs.Tree.{DocTree, no_kids}
use Rattle.kids_avl.specs.declared.bounds.TheConstants.{COUNT_PLACES}
use Rattle.kids_avl.specs.Entries.{Entries, no_entries, entry, height_of, IsEntry}
use Rattle.kids_avl.specs.Pool.{under, Stand}

pub record Holding : Type 0 where
  pub name : List ℕ
  pub child : ℕ
  pub left : Option ℕ
  pub right : Option ℕ
  pub height : ℕ

-- what stands past the end
abbrev pub blank : Holding
blank = record { name = []; child = 0; left = None; right = None; height = 0 }

abbrev pub leaf : ℕ → DocTree
leaf n = record { text = n ∷ []; kids = no_kids }

abbrev pub tree_at : List Entries → ℕ → Entries
tree_at trees a = slice_index_or trees a no_entries

abbrev pub HasEntry : List Entries → ℕ → Type 0
HasEntry trees a = IsEntry (tree_at trees a)

-- the tree of an entry over older ones
abbrev pub tree_over : List Entries → Holding → Entries
tree_over older h =
    entry h.name (leaf h.child) (under tree_at older h.left) (under tree_at older h.right)

abbrev pub trees_after : List Entries → List Holding → List Entries
trees_after older [] = older
trees_after older (h ∷ held) = trees_after (older ++ tree_over older h ∷ []) held

abbrev pub trees_of : List Holding → List Entries
trees_of held = trees_after [] held

-- entry k holds what its tree is, with its height
pub record Tells (trees : List Entries) (k : ℕ) (h : Holding) : Type 0 where
  pub tree : tree_at trees k ≡ tree_over trees h
  pub left : Stand HasEntry trees h.left
  pub right : Stand HasEntry trees h.right
  pub height : h.height ≡ height_of (tree_at trees k)
  pub low : h.height ≤ k + 1
  pub stands : k < length trees

-- what holds of the entries, with the capacity of their memory
pub record IsSound (held : List Holding) (capacity : ℕ) : Type 0 where
  pub told : (k : ℕ) → k < length held → Tells (trees_of held) k (slice_index_or held k blank)
  pub count : length held ≤ 4000
  pub taken : 4000 ≤ capacity

-- What the pool shows besides its entries.

abbrev pub says : List Entries → ℕ → DocTree
says trees c = leaf c

abbrev pub IsNumber : List Entries → ℕ → Type 0
IsNumber trees c = Unit {0}

-- it has no fewer entries than it had
abbrev pub grown : List Entries → List Entries → Type 0
grown start trees = length start ≤ length trees

-- reading takes none
abbrev pub places : List Entries → ℕ
places trees = COUNT_PLACES

abbrev pub spare : List Entries → ℕ
spare trees = 4000 - length trees

abbrev pub made : List Entries → ℕ
made trees = length trees
