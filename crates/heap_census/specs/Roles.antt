-- Which cells have which role: the anchor has its own, and a field of a cell with a role gives one
-- to the cell that it names.
--
-- A field gives its role whatever else is wrong with its cell. So the roles are the least set that
-- the layouts ask for, in whatever order cells are looked at. The anchor has a role of its own: so
-- it is checked, and a version that names it is at fault.
-- Source: this project's.
use Rattle.std.specs.Prelude.{ℕ, ◌≡◌, ◌<◌, ◌↔◌, true, List, Some, slice_index_or}
use Rattle.cell_words.specs.declared.fields.Field.TheVariants.{Cell}
use Rattle.heap_census.specs.declared.flags.Roles.{Roles}
use Rattle.heap_census.specs.declared.layouts.Role.{Role}
use Rattle.heap_census.specs.declared.layouts.Role.TheVariants as role
use Rattle.heap_census.specs.Flags.{has_role, no_roles}
use Rattle.heap_census.specs.Heap.{Heap}
use Rattle.heap_census.specs.Layouts.{gives}

pub data HasRole (h : Heap) : Role → ℕ → Type 0 where
  anchor : {r : Role} {c : ℕ} → r ≡ role.Anchor → c ≡ 0 → HasRole h r c
  named : {r q : Role} {c d : ℕ} (i : ℕ) → HasRole h r c → i < 6 → gives r i ≡ Some q
      → h.field c i ≡ Cell d → HasRole h q d

-- the flags by cell are its roles
abbrev pub TellsRoles : Heap → List Roles → Type 0
TellsRoles h marks = (r : Role) (c : ℕ)
    → (has_role (slice_index_or marks c no_roles) r ≡ true) ↔ HasRole h r c
