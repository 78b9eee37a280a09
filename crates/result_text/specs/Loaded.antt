-- What is written of a dump that was loaded.
-- Source: this project's own.
use Rattle.std.specs.Prelude.{ℕ, List, ◌++◌, codes}
use Rattle.cmd_text.specs.SummaryText.{total_text_of}
use Rattle.doc_tree.specs.Tree.{DocTree, count, height}

-- the number of the version, the nodes of its tree, and how high that is
abbrev pub loaded_text_of : ℕ → DocTree → List ℕ
loaded_text_of version t =
    total_text_of (codes "version") version
    ++ total_text_of (codes "nodes") (count t)
    ++ total_text_of (codes "height") (height t)
