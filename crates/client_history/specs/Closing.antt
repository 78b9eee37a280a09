-- A heap of documents that is closed with the collector's seat.
-- Source: this project's.
use Rattle.std.specs.Prelude.{ℕ, List}
use Rattle.doc_records.specs.Trees.{IsTreeNode, tree_of}
use Rattle.heap_rule.specs.declared.view.View.{View}
use Rattle.heap_rule.specs.Laws.{Ended}
use Rattle.heap_rule.specs.Shape.{Shape}
use Rattle.version_rule.specs.Pass.{Pass, opening_pass}
use Rattle.version_rule.specs.Versions.{HoldsVersions, is_fixed}

-- what is left of a heap whose client's rule is that of versions with trees as records
abbrev pub EndedStore : Shape → List ℕ → View Pass → Type 0
EndedStore h words v =
    Ended opening_pass (HoldsVersions IsTreeNode tree_of) is_fixed h (Unit {0}) words v
