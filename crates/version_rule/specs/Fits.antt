-- What one list of versions, the oldest first, has to do with the passes: each pass says of it what
-- is so, and the commits of all passes together made it.
-- Source: this project's.
use Rattle.std.specs.Prelude.{ℕ, ◌≡◌, ◌+◌, ◌-◌, ◌<◌, ◌≤◌, List, length, flat_map, All}
use Rattle.doc_tree.specs.Tree.{DocTree, empty}
use Rattle.doc_model.specs.Store.{tree_at}
use Rattle.doc_model.specs.Agreement.{EachOnce}
use Rattle.version_rule.specs.Pass.{Commit, Reading, Pass, commit_numbers}

-- there is a version with this number, and this is its tree
pub record HasTree (trees : List DocTree) (number : ℕ) (tree : DocTree) : Type 0 where
  pub there : number < length trees
  pub is : tree_at trees number ≡ tree

-- the commit made a version out of the one before it
pub record IsMade (trees : List DocTree) (c : Commit) : Type 0 where
  pub later : 1 ≤ c.number
  pub before : HasTree trees (c.number - 1) c.before
  pub made : HasTree trees c.number c.made

-- the list may be that of the versions, as far as the pass knows
pub record Fits (trees : List DocTree) (pass : Pass) : Type 0 where
  pub opens : tree_at trees 0 ≡ empty
  pub seen : pass.seen < length trees
  pub reads : All (λ (r : Reading). HasTree trees r.number r.tree) pass.reads
  pub commits : All (IsMade trees) pass.commits

-- the list is that of the versions: version 0 is the empty tree, and each further one was made by
-- one commit
pub record HasVersions (passes : List Pass) (trees : List DocTree) : Type 0 where
  pub opens : tree_at trees 0 ≡ empty
  pub fits : All (Fits trees) passes
  pub made : length trees ≡ length (flat_map commit_numbers passes) + 1
  pub once : EachOnce (flat_map commit_numbers passes)

-- whatever list fits the pass after, fitted the pass before
abbrev pub Narrows : Pass → Pass → Type 0
Narrows before after = (trees : List DocTree) → Fits trees after → Fits trees before

-- what every step of a mutator leaves of its pass
pub record Grows (before after : Pass) : Type 0 where
  pub narrows : Narrows before after
  pub keep : after.keep ≡ before.keep
  pub seen : before.seen ≤ after.seen
  pub cut : before.cut ≤ after.cut
