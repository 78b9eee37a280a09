-- Entries: the children of a node as a binary tree, each entry with its name and child between
-- those of smaller and those of greater names.
-- Source: G. M. Adelson-Velsky and E. M. Landis, 1962 (trees balanced by height).
use Rattle.std.specs.Prelude.{ℕ, zero, suc, ◌+◌, ◌≤◌, List, [], Option, Some, None, max}
use Rattle.doc_tree.specs.Tree.{DocTree, Kids, no_kids, kid, empty}
use Rattle.doc_tree.specs.Rows.{join}

pub data Entries : Type 0 where
  no_entries : Entries
  entry : (name : List ℕ) (child : DocTree) (left right : Entries) → Entries

-- the entry at the top; of what has none, harmless values
abbrev pub name_of : Entries → List ℕ
name_of no_entries = []
name_of (entry name child left right) = name

abbrev pub child_of : Entries → DocTree
child_of no_entries = empty
child_of (entry name child left right) = child

abbrev pub left_of : Entries → Entries
left_of no_entries = no_entries
left_of (entry name child left right) = left

abbrev pub right_of : Entries → Entries
right_of no_entries = no_entries
right_of (entry name child left right) = right

-- there is an entry at the top
abbrev pub IsEntry : Entries → Type 0
IsEntry no_entries = ⊥
IsEntry (entry name child left right) = Unit {0}

-- the children in their order
abbrev pub kids_of : Entries → Kids
kids_of no_entries = no_kids
kids_of (entry name child left right) =
    join (kids_of left) (kid name child.text child.kids (kids_of right))

abbrev pub height_of : Entries → ℕ
height_of no_entries = 0
height_of (entry name child left right) = max (height_of left) (height_of right) + 1

-- at each entry the heights of both sides differ by at most 1
abbrev pub IsBalanced : Entries → Type 0
IsBalanced no_entries = Unit {0}
IsBalanced (entry name child left right) =
    (height_of left ≤ height_of right + 1) × (height_of right ≤ height_of left + 1)
    × IsBalanced left × IsBalanced right

-- the name and the tree of the child at an index of a row
abbrev pub kid_at : ℕ → Kids → Option (List ℕ × DocTree)
kid_at index no_kids = None
kid_at zero (kid name text inside rest) = Some (name, record { text = text; kids = inside })
kid_at (suc index) (kid name text inside rest) = kid_at index rest
