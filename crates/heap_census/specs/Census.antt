-- What a census says of a heap, and which heaps it refuses.
-- Source: this project's.
use Rattle.std.specs.Prelude.{ℕ, ◌≡◌, ◌≢◌, ◌<◌, ◌+◌, true, false}
use Rattle.heap_census.specs.declared.numbers.Census.{Census}
use Rattle.heap_census.specs.declared.layouts.Role.{Role}
use Rattle.heap_census.specs.declared.layouts.Role.TheVariants as role
use Rattle.heap_census.specs.Counts.{IsCountOf}
use Rattle.heap_census.specs.Heap.{Heap, is_free}
use Rattle.heap_census.specs.Layouts.{fits, part_of}
use Rattle.heap_census.specs.Names.{IsShared}
use Rattle.heap_census.specs.Roles.{HasRole}

-- the cell is in use, and nothing gives it a role
abbrev pub IsFloating : Heap → ℕ → Type 0
IsFloating h c = (is_free h c ≡ false) × ((r : Role) → HasRole h r c → ⊥)

-- each cell with a role is in use, and has the layout of it and no other role
pub record IsSound (h : Heap) : Type 0 where
  pub used : (r : Role) (c : ℕ) → HasRole h r c → is_free h c ≡ false
  pub shaped : (r : Role) (c i : ℕ) → HasRole h r c → i < 6
      → fits (part_of r i) (h.field c i) ≡ true
  pub one_role : (r q : Role) (c : ℕ) → HasRole h r c → HasRole h q c → r ≡ q

-- a cell with a role is free, or has a field that is not of its layout, or has another role too
pub data IsFaulty (h : Heap) : Type 0 where
  free : {r : Role} {c : ℕ} → HasRole h r c → is_free h c ≡ true → IsFaulty h
  shapeless : {r : Role} {c : ℕ} (i : ℕ) → HasRole h r c → i < 6
      → fits (part_of r i) (h.field c i) ≡ false → IsFaulty h
  two_roles : {r q : Role} {c : ℕ} → HasRole h r c → HasRole h q c → r ≢ q → IsFaulty h

-- the numbers are those of the heap
pub record IsCensus (h : Heap) (x : Census) : Type 0 where
  pub cells : x.cells ≡ h.cells
  pub free : IsCountOf (λ c. is_free h c ≡ true) h.cells x.free
  pub versions : IsCountOf (HasRole h role.Version) h.cells x.versions
  pub nodes : IsCountOf (HasRole h role.Node) h.cells x.nodes
  pub entries : IsCountOf (HasRole h role.Entry) h.cells x.entries
  pub texts : IsCountOf (HasRole h role.Text) h.cells x.texts
  pub shared : IsCountOf (IsShared h) h.cells x.shared
  pub floating : IsCountOf (IsFloating h) h.cells x.floating

-- each cell is free, the anchor, or of one of the other sorts
abbrev pub AddsUp : Census → Type 0
AddsUp x = x.cells ≡ x.free + 1 + x.versions + x.nodes + x.entries + x.texts + x.floating
