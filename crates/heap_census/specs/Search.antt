-- A search for roles under way: what was found, and which cells wait with one of their roles, since
-- their fields are still to be looked at for it.
-- Source: this project's.
use Rattle.std.specs.Prelude.{ℕ, ◌≡◌, ◌+◌, ◌<◌, ◌≤◌, ◌⊎◌, Bool, true, false, List, []}
use Rattle.std.specs.Prelude.{◌∷◌, ◌++◌, length, nat_lt, slice_index_or, slice_set}
use Rattle.std.specs.Prelude.{if◌then◌else◌, Some}
use Rattle.std.specs.List.{Contains}
use Rattle.cell_words.specs.declared.fields.Field.TheVariants.{Cell}
use Rattle.heap_census.specs.declared.flags.Roles.{Roles}
use Rattle.heap_census.specs.declared.layouts.Role.{Role}
use Rattle.heap_census.specs.declared.layouts.Role.TheVariants as role
use Rattle.heap_census.specs.declared.searching.Named.{Named}
use Rattle.heap_census.specs.Flags.{has_role, no_roles, with_role}
use Rattle.heap_census.specs.Heap.{Heap}
use Rattle.heap_census.specs.Layouts.{gives}
use Rattle.heap_census.specs.Roles.{HasRole}

pub record Search : Type 0 where
  -- by cell: the roles that were found
  pub marks : List Roles
  pub waiting : List Named

abbrev pub has_found : Search → Role → ℕ → Bool
has_found search r c = has_role (slice_index_or search.marks c no_roles) r

abbrev pub named : Role → ℕ → Named
named r c = record { role = r; cell = c }

-- a role is found, if there is such a cell: it waits, if it was not found before
abbrev pub with_found : Search → Role → ℕ → Search
with_found search r c =
    if nat_lt c (length search.marks)
    then (if has_found search r c then search else record {
      marks = slice_set search.marks c (with_role (slice_index_or search.marks c no_roles) r);
      waiting = search.waiting ++ named r c ∷ [];
    })
    else search

-- 2 where the role was not found
abbrev pub twice : Bool → ℕ
twice true = 0
twice false = 2

-- twice as many as roles of cells that were not found
abbrev pub twice_unfound : List Roles → ℕ
twice_unfound [] = 0
twice_unfound (m ∷ marks) =
    twice m.anchor + twice m.version + twice m.node + twice m.entry + twice m.text
    + twice_unfound marks

-- how much is left to do: it falls as a cell is taken from those that wait
abbrev pub left_to_do : Search → ℕ
left_to_do search = twice_unfound search.marks + length search.waiting

-- what waits was found
abbrev pub WaitsFound : Search → Type 0
WaitsFound search = (r : Role) (c : ℕ) → Contains search.waiting (named r c)
    → has_found search r c ≡ true

-- The search has grown by what waits.
pub record GrowsTo (old new : Search) : Type 0 where
  pub size : length new.marks ≡ length old.marks
  pub kept : (r : Role) (c : ℕ) → has_found old r c ≡ true → has_found new r c ≡ true
  pub waits : (r : Role) (c : ℕ) → Contains old.waiting (named r c)
      → Contains new.waiting (named r c)
  pub new_waits : (r : Role) (c : ℕ) → has_found new r c ≡ true
      → (has_found old r c ≡ true) ⊎ Contains new.waiting (named r c)
  pub found : WaitsFound old → WaitsFound new
  pub less : left_to_do new ≤ left_to_do old

-- what was found is so
abbrev pub IsFound : Heap → Search → Type 0
IsFound h search = (r : Role) (c : ℕ) → has_found search r c ≡ true → HasRole h r c

-- what the first fields of a cell with a role name is found
abbrev pub FoundNamed : Heap → Role → ℕ → ℕ → Search → Type 0
FoundNamed h r c count search = (i : ℕ) (q : Role) (d : ℕ) → i < count → gives r i ≡ Some q
    → h.field c i ≡ Cell d → has_found search q d ≡ true

-- What holds between two cells that are taken from those that wait.
pub record IsSearch (h : Heap) (search : Search) : Type 0 where
  pub sound : IsFound h search
  pub start : has_found search role.Anchor 0 ≡ true
  -- a cell waits, or what it names is found
  pub closed : (r : Role) (c : ℕ) → has_found search r c ≡ true
      → Contains search.waiting (named r c) ⊎ FoundNamed h r c 6 search
