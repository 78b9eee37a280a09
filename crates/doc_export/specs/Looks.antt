-- How often a mutator looked for a handshake, by what its trail shows.
-- Source: this project's own.
use Rattle.std.specs.Prelude.{ℕ, ◌+◌, List, [], ◌∷◌, Option, Some, None}
use Rattle.doc_tree.specs.Tree.{DocTree, Kids, child, count}
use Rattle.trails.specs.Marks.{Mark, looked, saw, tried, wrote}

abbrev pub looks : List Mark → ℕ
looks [] = 0
looks (saw cell field found ∷ marks) = looks marks
looks (wrote cell field old new found ∷ marks) = looks marks
looks (looked control ∷ marks) = looks marks + 1
looks (tried cell colour ∷ marks) = looks marks

-- the nodes of a child, if it is there
abbrev pub child_nodes : Option DocTree → ℕ
child_nodes None = 0
child_nodes (Some t) = count t

-- the nodes of the children of these names
abbrev pub nodes_of : Kids → List (List ℕ) → ℕ
nodes_of kids [] = 0
nodes_of kids (name ∷ names) = child_nodes (child name kids) + nodes_of kids names
