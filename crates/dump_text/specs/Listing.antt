-- The nodes of a tree in the order of their lines: each before its children, and these in the order
-- of their names. The root's path has no names.
-- Source: this project's own.
use Rattle.std.specs.Prelude.{ℕ, List, [], ◌∷◌, ◌++◌, map}
use Rattle.doc_tree.specs.Tree.{DocTree, Kids, no_kids, kid}

-- a node, as its line has it
pub record Listed : Type 0 where
  pub path : List (List ℕ)
  pub text : List ℕ

-- a node below the child of this name
abbrev pub under : List ℕ → Listed → Listed
under name node = record { path = name ∷ node.path; text = node.text }

abbrev pub root_of : List ℕ → Listed
root_of text = record { path = []; text = text }

abbrev pub listed_below : Kids → List Listed
listed_below no_kids = []
listed_below (kid name text inside rest) =
    map (under name) (root_of text ∷ listed_below inside) ++ listed_below rest

abbrev pub listed : DocTree → List Listed
listed t = root_of t.text ∷ listed_below t.kids
