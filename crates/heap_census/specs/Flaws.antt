-- With which cells something is wrong: cell by cell, what a census refuses of a heap.
--
-- A free cell with a role is not at fault itself, but the cell that names it is.
-- Source: this project's.
use Rattle.std.specs.Prelude.{ℕ, ◌≡◌, ◌≢◌, ◌<◌, ◌↔◌, ◌⊎◌, Bool, true, false, Option, Some, None}
use Rattle.cell_words.specs.declared.fields.Field.{Field}
use Rattle.cell_words.specs.declared.fields.Field.TheVariants as field
use Rattle.heap_census.specs.declared.flags.Roles.{Roles}
use Rattle.heap_census.specs.declared.flaws.Flaw.{Flaw}
use Rattle.heap_census.specs.declared.flaws.Flaw.TheVariants as flaw
use Rattle.heap_census.specs.declared.flaws.Flawed.{Flawed}
use Rattle.heap_census.specs.declared.layouts.Role.{Role}
use Rattle.heap_census.specs.declared.numbers.Census.{Census}
use Rattle.heap_census.specs.declared.taking.Checked.{Checked}
use Rattle.heap_census.specs.declared.taking.Checked.TheVariants as checked
use Rattle.heap_census.specs.Census.{AddsUp, IsCensus}
use Rattle.heap_census.specs.Flags.{has_role}
use Rattle.heap_census.specs.Heap.{Heap, is_free}
use Rattle.heap_census.specs.Layouts.{fits, part_of}
use Rattle.heap_census.specs.Roles.{HasRole}

-- the field names a free cell
abbrev pub names_free : Heap → Field → Bool
names_free h field.Null = false
names_free h (field.Num n) = false
names_free h (field.Cell d) = is_free h d

-- a field of the cell names a free one
abbrev pub NamesFree : Heap → ℕ → Type 0
NamesFree h c = (i : ℕ) × (i < 6) × (names_free h (h.field c i) ≡ true)

-- the anchor is free, or a cell with a role names a free one
abbrev pub StandsBlue : Heap → ℕ → Type 0
StandsBlue h c =
    ((c ≡ 0) × (is_free h c ≡ true)) ⊎ ((r : Role) × HasRole h r c × NamesFree h c)

-- a field of the cell is not of the layout of its role, or it has two roles
pub data IsShapeless (h : Heap) (c : ℕ) : Type 0 where
  in_field : {r : Role} (i : ℕ) → HasRole h r c → i < 6 → fits (part_of r i) (h.field c i) ≡ false
      → IsShapeless h c
  two_roles : {r q : Role} → HasRole h r c → HasRole h q c → r ≢ q → IsShapeless h c

-- what is wrong with a cell
abbrev pub HasFlaw : Heap → ℕ → Flaw → Type 0
HasFlaw h c flaw.Blue = StandsBlue h c
HasFlaw h c flaw.BadShape =
    (StandsBlue h c → ⊥) × (is_free h c ≡ false) × IsShapeless h c

abbrev pub HasNoFlaw : Heap → ℕ → Type 0
HasNoFlaw h c = (wrong : Flaw) → HasFlaw h c wrong → ⊥

-- nothing is wrong with any cell
abbrev pub IsFlawless : Heap → Type 0
IsFlawless h = (c : ℕ) → HasNoFlaw h c

-- this is wrong with the cell, and nothing with those before it
pub record IsLeastFlaw (h : Heap) (c : ℕ) (wrong : Flaw) : Type 0 where
  pub is : HasFlaw h c wrong
  pub least : (k : ℕ) → k < c → HasNoFlaw h k

-- the flags are the roles of the cell
abbrev pub TellsRole : Heap → Roles → ℕ → Type 0
TellsRole h m c = (r : Role) → (has_role m r ≡ true) ↔ HasRole h r c

abbrev pub IsFlawOf : Heap → ℕ → Option Flaw → Type 0
IsFlawOf h c None = HasNoFlaw h c
IsFlawOf h c (Some wrong) = HasFlaw h c wrong

abbrev pub IsFirstFlaw : Heap → Option Flawed → Type 0
IsFirstFlaw h None = IsFlawless h
IsFirstFlaw h (Some at) = IsLeastFlaw h at.cell at.flaw

-- the census of a heap without a flaw, or its first flaw
abbrev pub IsChecked : Heap → Checked → Type 0
IsChecked h (checked.Sound census) = IsFlawless h × IsCensus h census × AddsUp census
IsChecked h (checked.Faulty at) = IsLeastFlaw h at.cell at.flaw
