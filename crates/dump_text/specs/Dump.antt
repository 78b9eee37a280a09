-- The dump of a version: its number and its tree as text.
--
-- A head with the number; a line for each node in preorder, children in the order of their names,
-- the root's path being `.`; and an end with the number of node lines. A node line is the path, a
-- space and the quoted text. Numbers have no leading zeros, and each line ends with a line feed.
-- Source: this project's own.
use Rattle.std.specs.Prelude.{ℕ, List, [], ◌∷◌, ◌++◌, codes, decimal}
use Rattle.std.specs.List.{join_with_byte}
use Rattle.doc_tree.specs.Tree.{DocTree, Kids, no_kids, kid, count}
use Rattle.quoted_text.specs.Quoted.{quoted_of}

-- a line with its line feed
abbrev pub fed : List ℕ → List ℕ
fed text = text ++ 10 ∷ []

-- names joined by `/`
abbrev pub path_text : List (List ℕ) → List ℕ
path_text path = join_with_byte 47 path

abbrev pub head_text : ℕ → List ℕ
head_text v = codes "docs-dump 1 " ++ decimal v

abbrev pub root_text : List ℕ → List ℕ
root_text text = codes ". " ++ quoted_of text

abbrev pub node_text : List (List ℕ) → List ℕ → List ℕ
node_text path text = path_text path ++ 32 ∷ quoted_of text

abbrev pub end_text : ℕ → List ℕ
end_text nodes = codes "end " ++ decimal nodes

abbrev pub head_line : ℕ → List ℕ
head_line v = fed (head_text v)

abbrev pub root_line : List ℕ → List ℕ
root_line text = fed (root_text text)

abbrev pub node_line : List (List ℕ) → List ℕ → List ℕ
node_line path text = fed (node_text path text)

abbrev pub end_line : ℕ → List ℕ
end_line nodes = fed (end_text nodes)

-- the lines of all nodes below the one at this path, whose children these are
abbrev pub lines_below : List (List ℕ) → Kids → List ℕ
lines_below path no_kids = []
lines_below path (kid name text inside rest) =
    node_line (path ++ name ∷ []) text
    ++ (lines_below (path ++ name ∷ []) inside ++ lines_below path rest)

-- the dump of this version, which has this tree
abbrev pub dump_of : ℕ → DocTree → List ℕ
dump_of v t =
    head_line v ++ (root_line t.text ++ (lines_below [] t.kids ++ end_line (count t)))
