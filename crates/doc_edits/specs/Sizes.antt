-- How many nodes and levels a node has of which one child comes, goes or is changed.
-- Source: this project's.
use Rattle.std.specs.Prelude.{◌≡◌, ℕ, ◌+◌, ◌≤◌, ◌<◌, ◌^◌, Option, Some, None, max}
use Rattle.doc_tree.specs.Tree.{DocTree, Kids, count, height, height_below, nodes_below, nodes_in}
use Rattle.doc_edits.specs.declared.sizes.Change.{Change}

-- how many levels a child adds to a row; none adds nothing
abbrev pub levels_in : Option DocTree → ℕ
levels_in None = 0
levels_in (Some d) = height d + 1

-- the sizes of the node as it was, and what the child that goes and the one that comes add
pub record IsChange (c : Change) (t : DocTree) (gone came : Option DocTree) : Type 0 where
  pub nodes : c.old.nodes ≡ count t
  pub levels : c.old.levels ≡ height t
  pub nodes_gone : c.gone.nodes ≡ nodes_in gone
  pub levels_gone : c.gone.levels ≡ levels_in gone
  pub nodes_come : c.come.nodes ≡ nodes_in came
  pub levels_come : c.come.levels ≡ levels_in came

-- What the sizes of the new row are by these. The levels are one of two numbers, but where the
-- child that goes was as high as any and the one that comes is lower.
pub record Changes (c : Change) (kids : Kids) : Type 0 where
  pub nodes : nodes_below kids + 1 + c.gone.nodes ≡ c.old.nodes + c.come.nodes
  pub few : c.old.nodes + c.come.nodes < 2 ^ 61
  pub least : c.come.levels ≤ height_below kids
  pub most : height_below kids ≤ max c.old.levels c.come.levels
  pub rest : c.old.levels ≤ max (height_below kids) c.gone.levels
