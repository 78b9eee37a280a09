-- Whether one cell is fit for one role.
-- Source: this project's.
use Rattle.std.specs.Prelude.{ℕ, ◌≡◌, ◌<◌, ◌⊎◌, true, false}
use Rattle.heap_census.specs.declared.flags.Roles.{Roles}
use Rattle.heap_census.specs.declared.layouts.Role.{Role}
use Rattle.heap_census.specs.Flags.{has_role}
use Rattle.heap_census.specs.Heap.{Heap, is_free}
use Rattle.heap_census.specs.Layouts.{fits, part_of}

-- it is in use, and each field is one of the layout
pub record FitsAs (h : Heap) (r : Role) (c : ℕ) : Type 0 where
  pub used : is_free h c ≡ false
  pub shaped : (i : ℕ) → i < 6 → fits (part_of r i) (h.field c i) ≡ true

-- it is free, or a field is not of the layout
abbrev pub MisfitsAs : Heap → Role → ℕ → Type 0
MisfitsAs h r c =
    (is_free h c ≡ true) ⊎ ((i : ℕ) × (i < 6) × (fits (part_of r i) (h.field c i) ≡ false))

-- one of the roles is not the cell's
pub record Misfits (h : Heap) (m : Roles) (c : ℕ) : Type 0 where
  pub role : Role
  pub has : has_role m role ≡ true
  pub misfits : MisfitsAs h role c
