-- How often the cells with a role name a cell.
-- Source: this project's.
use Rattle.std.specs.Prelude.{ℕ, ◌≡◌, ◌≢◌, ◌<◌, ◌⊎◌}
use Rattle.cell_words.specs.declared.fields.Field.TheVariants.{Cell}
use Rattle.heap_census.specs.declared.layouts.Role.{Role}
use Rattle.heap_census.specs.Heap.{Heap}
use Rattle.heap_census.specs.Roles.{HasRole}

-- field i of cell c names d, and c has a role
pub record Names (h : Heap) (c i d : ℕ) : Type 0 where
  pub role : (r : Role) × HasRole h r c
  pub in_cell : i < 6
  pub is : h.field c i ≡ Cell d

-- two fields name the cell, of one cell or of two
pub record IsShared (h : Heap) (d : ℕ) : Type 0 where
  pub cell : ℕ
  pub field : ℕ
  pub other_cell : ℕ
  pub other_field : ℕ
  pub names : Names h cell field d
  pub also : Names h other_cell other_field d
  pub are_two : (cell ≢ other_cell) ⊎ (field ≢ other_field)
