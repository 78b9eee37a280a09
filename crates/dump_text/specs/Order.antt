-- Which path may follow others: one that comes after the last of them, and whose parent is among
-- them. Paths are in the order of lists of names.
-- Source: this project's own.
use Rattle.std.specs.Prelude.{ℕ, Bool, true, false, ◌&&◌, List, [], ◌∷◌, bytes_eq, count_by}
use Rattle.std.specs.Cmp.Lexicographic.{slice_cmp}
use Rattle.std.specs.List.{list_any}
use Rattle.std.specs.Ordering.{is_lt}
use Rattle.std.specs.declared.cmp.Ordering.{Ordering}
use Rattle.doc_tree.specs.Tree.{name_cmp, by_order}
use Rattle.dump_text.specs.Listing.{Listed}

abbrev pub Path : Type 0
Path = List (List ℕ)

abbrev pub path_cmp : Path → Path → Ordering
path_cmp m n = slice_cmp name_cmp m n

-- the path comes after this one
abbrev pub comes_after : Path → Path → Bool
comes_after last path = is_lt (path_cmp last path)

abbrev pub is_empty : Path → Bool
is_empty [] = true
is_empty (n ∷ path) = false

-- the path has these names and one more
abbrev pub is_child : Path → Path → Bool
is_child [] [] = false
is_child [] (n ∷ path) = is_empty path
is_child (m ∷ parent) [] = false
is_child (m ∷ parent) (n ∷ path) = bytes_eq m n && is_child parent path

-- both have one parent
abbrev pub is_sibling : Path → Path → Bool
is_sibling [] other = false
is_sibling (n ∷ path) [] = false
is_sibling (n ∷ []) (m ∷ other) = is_empty other
is_sibling (n ∷ k ∷ path) (m ∷ other) = bytes_eq n m && is_sibling (k ∷ path) other

-- the path of the last node
abbrev pub last_path : List Listed → Path
last_path [] = []
last_path (node ∷ []) = node.path
last_path (node ∷ next ∷ nodes) = last_path (next ∷ nodes)

-- the path's parent is one of these nodes
abbrev pub has_parent : List Listed → Path → Bool
has_parent nodes path = list_any (λ node. is_child node.path path) nodes

-- how many of these nodes have the path's parent
abbrev pub siblings : List Listed → Path → ℕ
siblings nodes path = count_by (λ node. is_sibling path node.path) nodes

-- the path may come after these nodes
abbrev pub follows : List Listed → Path → Bool
follows nodes path = comes_after (last_path nodes) path && has_parent nodes path

-- the same, by the last path alone, where the paths before are those of a tree
abbrev pub is_next : Path → Path → Bool
is_next last [] = false
is_next [] (n ∷ path) = is_empty path
is_next (m ∷ last) (n ∷ path) = by_order (name_cmp m n) (is_empty path) (is_next last path) false
