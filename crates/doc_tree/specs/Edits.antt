-- Edits of a tree, and why one is refused.
-- An edit goes down its path, makes the missing nodes on the way, and puts each changed child in
-- the place of the old one on the way back. What the limits on a whole tree say is asked once, of
-- the whole new tree. A deletion makes nothing, and a tree is within its limits after it as before.
-- Source: this project's.
use Rattle.std.specs.Prelude.{◌≡◌, ℕ, nat_lt, List, [], ◌∷◌, Option, Some, None, Result, Ok, Err}
use Rattle.std.specs.Prelude.{if◌then◌else◌}
use Rattle.doc_tree.specs.declared.edit.EditFault.{EditFault}
use Rattle.doc_tree.specs.declared.edit.EditFault.TheVariants as fault
use Rattle.doc_tree.specs.declared.tree.TheConstants.Tree.{MOST_CHILDREN}
use Rattle.doc_tree.specs.Tree.{DocTree, Kids, no_kids, kid, empty, kid_count, name_cmp, by_order}
use Rattle.doc_tree.specs.Tree.{child, put_child, count, height}

-- the tree with this one as its child of that name
abbrev pub with_child : List ℕ → DocTree → DocTree → DocTree
with_child n d t = record { text = t.text; kids = put_child n d t.kids }

abbrev pub with_text : List ℕ → DocTree → DocTree
with_text text t = record { text = text; kids = t.kids }

-- the child that an edit goes on in: a new one where there is none, and where there is room
abbrev pub begun : Kids → Option DocTree → Result DocTree EditFault
begun kids (Some d) = Ok d
begun kids None = if nat_lt (kid_count kids) MOST_CHILDREN then Ok empty else Err fault.Many

abbrev pub start : List ℕ → DocTree → Result DocTree EditFault
start n t = begun t.kids (child n t.kids)

-- an edit after another, unless that was refused
abbrev pub edited : (DocTree → Result DocTree EditFault) → Result DocTree EditFault
    → Result DocTree EditFault
edited edit (Ok d) = edit d
edited edit (Err e) = Err e

-- the tree with the edited child in its place
abbrev pub placed : List ℕ → DocTree → Result DocTree EditFault → Result DocTree EditFault
placed n t (Ok d) = Ok (with_child n d t)
placed n t (Err e) = Err e

-- the tree with another at the end of the path, made from what stands there
abbrev pub edit_along : (DocTree → DocTree) → List (List ℕ) → DocTree → Result DocTree EditFault
edit_along make [] t = Ok (make t)
edit_along make (n ∷ path) t = placed n t (edited (edit_along make path) (start n t))

-- the limits on a whole tree: height at most 8, and then at most 1,000,000,000 nodes
abbrev pub within_limits : DocTree → Result DocTree EditFault
within_limits t =
    if nat_lt 8 (height t) then Err fault.Deep
    else (if nat_lt 1_000_000_000 (count t) then Err fault.Big else Ok t)

-- gives the node at the path the text, and keeps its children
abbrev pub set_text : List (List ℕ) → List ℕ → DocTree → Result DocTree EditFault
set_text path text t = edited within_limits (edit_along (with_text text) path t)

-- puts a whole tree at the path, in place of what stands there
abbrev pub attach : List (List ℕ) → DocTree → DocTree → Result DocTree EditFault
attach path sub t = edited within_limits (edit_along (λ _. sub) path t)

-- the children without the one of that name
abbrev pub delete_child : List ℕ → Kids → Kids
delete_child n no_kids = no_kids
delete_child n (kid m text inside rest) =
    by_order (name_cmp n m) (kid m text inside rest) rest (kid m text inside (delete_child n rest))

abbrev pub without_child : List ℕ → DocTree → DocTree
without_child n t = record { text = t.text; kids = delete_child n t.kids }

-- the child that a deletion goes on in
abbrev pub found : Option DocTree → Result DocTree EditFault
found (Some d) = Ok d
found None = Err fault.Absent

-- the tree without a child that is there
abbrev pub deleted : List ℕ → DocTree → Option DocTree → Result DocTree EditFault
deleted n t (Some d) = Ok (without_child n t)
deleted n t None = Err fault.Absent

-- removes the node at the path, with all that is below it
abbrev pub delete : List (List ℕ) → DocTree → Result DocTree EditFault
delete [] t = Err fault.Absent
delete (n ∷ []) t = deleted n t (child n t.kids)
delete (n ∷ m ∷ path) t = placed n t (edited (delete (m ∷ path)) (found (child n t.kids)))

-- what a call answers that may run out of memory, where memory holds
abbrev pub Gives : Result DocTree EditFault → Result DocTree EditFault → Type 0
Gives (Ok t) wanted = wanted ≡ Ok t
Gives (Err fault.Absent) wanted = wanted ≡ Err fault.Absent
Gives (Err fault.Many) wanted = wanted ≡ Err fault.Many
Gives (Err fault.Deep) wanted = wanted ≡ Err fault.Deep
Gives (Err fault.Big) wanted = wanted ≡ Err fault.Big
Gives (Err fault.NoMemory) wanted = Unit {0}

-- the tree that an answer spells, or why there is none
abbrev pub answered : {A : Type 0} → (A → DocTree) → Result A EditFault → Result DocTree EditFault
answered tree (Ok a) = Ok (tree a)
answered tree (Err e) = Err e
