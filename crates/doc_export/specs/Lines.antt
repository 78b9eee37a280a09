-- The node lines of a dump by what stands before a name: nothing below the root, and below any
-- other node its path and a slash. They are those of the format.
-- Source: this project's own.
use Rattle.std.specs.Prelude.{ℕ, List, [], ◌∷◌, ◌++◌, Option, Some, None}
use Rattle.doc_tree.specs.Tree.{DocTree, Kids, no_kids, kid, child}
use Rattle.quoted_text.specs.Quoted.{quoted_of}
use Rattle.dump_text.specs.Dump.{fed}

-- the line of a node with this path
abbrev pub line_of : List ℕ → List ℕ → List ℕ
line_of path text = fed (path ++ 32 ∷ quoted_of text)

abbrev pub path_behind : List ℕ → List ℕ → List ℕ
path_behind before name = before ++ name

abbrev pub with_slash : List ℕ → List ℕ
with_slash path = path ++ 47 ∷ []

-- what stands before the names of the children of the node at this path
abbrev pub before_of : List (List ℕ) → List ℕ
before_of [] = []
before_of (name ∷ path) = with_slash name ++ before_of path

-- the lines of all nodes below one, where this stands before the names of its children
abbrev pub lines_from : List ℕ → Kids → List ℕ
lines_from before no_kids = []
lines_from before (kid name text inside rest) =
    line_of (path_behind before name) text
    ++ (lines_from (with_slash (path_behind before name)) inside ++ lines_from before rest)

-- the lines of a tree whose root has this path, where this stands before the names below it
abbrev pub tree_lines : List ℕ → List ℕ → DocTree → List ℕ
tree_lines path before t = line_of path t.text ++ lines_from before t.kids

-- the lines of a child and of what is below it, if it is there
abbrev pub child_lines : List ℕ → Option DocTree → List ℕ
child_lines path None = []
child_lines path (Some t) = tree_lines path (with_slash path) t

-- the lines of the children of these names, one after the other
abbrev pub lines_of : List ℕ → Kids → List (List ℕ) → List ℕ
lines_of before kids [] = []
lines_of before kids (name ∷ names) =
    child_lines (path_behind before name) (child name kids) ++ lines_of before kids names
