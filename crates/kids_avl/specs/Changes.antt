-- What a change makes of a tree of entries: the row of its children, that it is balanced, and how
-- far its height moves.
-- Source: this project's; the bounds on heights are those of Adelson-Velsky and Landis, 1962.
use Rattle.std.specs.Prelude.{◌≡◌, ℕ, ◌+◌, ◌≤◌, List}
use Rattle.doc_tree.specs.Tree.{DocTree, kid, put_child, IsRising}
use Rattle.doc_tree.specs.Edits.{delete_child}
use Rattle.doc_tree.specs.Rows.{join}
use Rattle.kids_avl.specs.Entries.{Entries, name_of, child_of, left_of, right_of, kids_of}
use Rattle.kids_avl.specs.Entries.{height_of, IsBalanced}

-- both sides are balanced, and their heights differ by at most 2
pub record IsNearly (t : Entries) : Type 0 where
  pub left : IsBalanced (left_of t)
  pub right : IsBalanced (right_of t)
  pub left_near : height_of (left_of t) ≤ height_of (right_of t) + 2
  pub right_near : height_of (right_of t) ≤ height_of (left_of t) + 2
  pub rising : IsRising (kids_of t)

-- the same children in balance
pub record IsEven (t even : Entries) : Type 0 where
  pub kids : kids_of even ≡ kids_of t
  pub balanced : IsBalanced even
  pub low : height_of t ≤ height_of even + 1
  pub high : height_of even ≤ height_of t
  pub same : IsBalanced t → height_of even ≡ height_of t

-- the children with this tree as the one of that name
pub record IsPut (name : List ℕ) (d : DocTree) (t new : Entries) : Type 0 where
  pub kids : kids_of new ≡ put_child name d (kids_of t)
  pub balanced : IsBalanced new
  pub low : height_of t ≤ height_of new
  pub high : height_of new ≤ height_of t + 1

-- the children without the one of that name
pub record IsWithout (name : List ℕ) (t new : Entries) : Type 0 where
  pub kids : kids_of new ≡ delete_child name (kids_of t)
  pub balanced : IsBalanced new
  pub low : height_of t ≤ height_of new + 1
  pub high : height_of new ≤ height_of t

-- a first child, and the others
pub record IsFirst (t first rest : Entries) : Type 0 where
  pub kids : kids_of t ≡ kid (name_of first) (child_of first).text (child_of first).kids
      (kids_of rest)
  pub balanced : IsBalanced rest
  pub low : height_of t ≤ height_of rest + 1
  pub high : height_of rest ≤ height_of t

-- the children of both sides, where the one between them is gone
pub record IsClosed (t new : Entries) : Type 0 where
  pub kids : kids_of new ≡ join (kids_of (left_of t)) (kids_of (right_of t))
  pub balanced : IsBalanced new
  pub low : height_of t ≤ height_of new + 1
  pub high : height_of new ≤ height_of t
