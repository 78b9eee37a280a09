-- What the fields of a `PlainStore` keep between two commands, and what they need of the next
-- version.
-- Source: this project's.
use Rattle.std.specs.Prelude.{◌≡◌, ℕ, ◌+◌, ◌-◌, ◌≤◌, List, Option, Some, None, length, drop, min}
use Rattle.std.specs.Prelude.{All}
use Rattle.doc_tree.specs.Tree.{DocTree, count}
use Rattle.doc_model.specs.Store.{Store}

-- the latest trees, as many as can be asked for, of a list of versions within its limit
pub record IsKept (keep versions : ℕ) (trees recent : List DocTree) : Type 0 where
  pub some : 1 ≤ length trees
  pub few : length trees ≤ versions + 1
  pub bound : versions ≤ 1_000_000
  pub kept : 1 ≤ keep
  pub asked : length recent ≡ min keep (length trees)
  pub latest : recent ≡ drop (length trees - length recent) trees
  -- so that the count of every tree is a number that a reply can bear
  pub counted : All (λ t. count t ≤ 1_000_000_000) trees

-- where a version is made, there may be one more, and of a count that may be
abbrev pub IsNext : Store → Option DocTree → Type 0
IsNext s None = Unit {0}
IsNext s (Some t) = (length s.trees ≤ s.limits.versions) × (count t ≤ 1_000_000_000)
