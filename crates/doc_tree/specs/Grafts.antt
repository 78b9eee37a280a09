-- What an edit made of the child at the first name of its path, put into another tree.
-- An edit of a tree is lost where another tree has come in its place. Where both trees have the
-- same child at that name, or none, the child that the edit made is attached to the other tree, and
-- that is the edit of the other tree.
-- Source: this project's.
use Rattle.std.specs.Prelude.{◌≡◌, ℕ, ◌≤◌, List, Some, Result, Ok, length, take}
use Rattle.doc_tree.specs.declared.edit.EditFault.{EditFault}
use Rattle.doc_tree.specs.Tree.{DocTree, node}
use Rattle.doc_tree.specs.Edits.{attach, delete, set_text}

-- the two trees have one child, or none, at the first name of the path
abbrev pub Agree : List (List ℕ) → DocTree → DocTree → Type 0
Agree path r s = node (take 1 path) s ≡ node (take 1 path) r

-- where an edit makes e of r, and s agrees with r: the child of e at the first name, attached to s,
-- gives what the edit makes of s, if the attachment is not refused
abbrev pub IsAlong : List (List ℕ) → (DocTree → Result DocTree EditFault) → Type 0
IsAlong path edit =
    (r s e d t : DocTree) → edit r ≡ Ok e → Agree path r s → node (take 1 path) e ≡ Some d
    → attach (take 1 path) d s ≡ Ok t → edit s ≡ Ok t

-- The laws of edits that carry over. A deletion asks for a second name: at the first, nothing is
-- left of the child to put anywhere.
abbrev pub SetTextIsAlong : Type 0
SetTextIsAlong =
    (path : List (List ℕ)) (text : List ℕ) → 1 ≤ length path → IsAlong path (set_text path text)

abbrev pub AttachIsAlong : Type 0
AttachIsAlong =
    (path : List (List ℕ)) (sub : DocTree) → 1 ≤ length path → IsAlong path (attach path sub)

abbrev pub DeleteIsAlong : Type 0
DeleteIsAlong = (path : List (List ℕ)) → 2 ≤ length path → IsAlong path (delete path)

-- what is below the first name is the same in trees that agree at it
abbrev pub NodeAgrees : Type 0
NodeAgrees =
    (path : List (List ℕ)) (r s : DocTree) → 1 ≤ length path → Agree path r s
    → node path s ≡ node path r
