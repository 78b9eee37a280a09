-- A search for reachable cells under way: the cells that were found, and those of them whose fields
-- are still to be looked at.
-- Source: this project's.
use Rattle.std.specs.Prelude.{ℕ, ◌≡◌, ◌+◌, ◌<◌, ◌≤◌, ◌⊎◌, Bool, true, false, List, [], ◌∷◌, ◌++◌}
use Rattle.std.specs.Prelude.{length, slice_index_or, slice_set, take, if◌then◌else◌}
use Rattle.std.specs.List.{Contains}
use Rattle.cell_words.specs.declared.fields.Field.TheVariants.{Cell}
use Rattle.core_machine.specs.Places.{holds}
use Rattle.core_machine.specs.State.{State, field_of, held_of, presence_of}
use Rattle.dlg_core.specs.Reachable.{Reachable}

pub record Search : Type 0 where
  -- by cell: it was found
  pub marks : List Bool
  pub waiting : List ℕ

abbrev pub has_found : Search → ℕ → Bool
has_found search c = slice_index_or search.marks c false

-- a cell is found: it waits, if it was not found before
abbrev pub with_found : Search → ℕ → Search
with_found search c =
    if has_found search c then search
    else record { marks = slice_set search.marks c true; waiting = search.waiting ++ c ∷ [] }

-- twice as many as cells that were not found
abbrev pub twice_unfound : List Bool → ℕ
twice_unfound [] = 0
twice_unfound (true ∷ marks) = twice_unfound marks
twice_unfound (false ∷ marks) = twice_unfound marks + 2

-- how much is left to do: it falls as a cell is taken from those that wait
abbrev pub left_to_do : Search → ℕ
left_to_do search = twice_unfound search.marks + length search.waiting

-- The search has grown by reachable cells, which wait.
pub record GrowsTo (s : State) (old new : Search) : Type 0 where
  pub size : length new.marks ≡ length old.marks
  pub kept : (c : ℕ) → has_found old c ≡ true → has_found new c ≡ true
  pub waits : (c : ℕ) → Contains old.waiting c → Contains new.waiting c
  pub new_waits : (c : ℕ) → has_found new c ≡ true
      → (has_found old c ≡ true) ⊎ Contains new.waiting c
  pub sound : ((c : ℕ) → has_found old c ≡ true → Reachable s c) → (c : ℕ) → has_found new c ≡ true
      → Reachable s c
  pub found : ((c : ℕ) → Contains old.waiting c → has_found old c ≡ true) → (c : ℕ)
      → Contains new.waiting c → has_found new c ≡ true
  pub less : left_to_do new ≤ left_to_do old

-- what the first fields of a cell name is found
abbrev pub FoundNamed : State → ℕ → ℕ → Search → Type 0
FoundNamed s c count search = (d f : ℕ) → f < count → field_of s c f ≡ Cell d
    → has_found search d ≡ true

-- what the first places of mutator i have is found
abbrev pub FoundHeld : State → ℕ → Search → Type 0
FoundHeld s i search = (c : ℕ) → (presence_of s i).inside ≡ true → holds (held_of s i) c ≡ true
    → has_found search c ≡ true

-- every root is found
pub record FoundRoots (s : State) (search : Search) : Type 0 where
  pub anchor : has_found search 0 ≡ true
  pub held : (i : ℕ) → FoundHeld s i search

-- What holds between two cells that are taken from those that wait.
pub record IsSearch (s : State) (search : Search) : Type 0 where
  pub size : length search.marks ≡ s.cells
  pub sound : (c : ℕ) → has_found search c ≡ true → Reachable s c
  pub found : (c : ℕ) → Contains search.waiting c → has_found search c ≡ true
  pub roots : FoundRoots s search
  -- a cell waits, or what it names is found
  pub closed : (c : ℕ) → has_found search c ≡ true
      → Contains search.waiting c ⊎ FoundNamed s c 6 search

-- Loops under way.

-- the first places of mutator i were looked at
pub record HeldSoFar (s : State) (i count : ℕ) (start now : Search) : Type 0 where
  pub grows : GrowsTo s start now
  pub held : (c : ℕ) → holds (take count (held_of s i)) c ≡ true → has_found now c ≡ true

-- the first fields of a cell were looked at
pub record NamedSoFar (s : State) (c count : ℕ) (start now : Search) : Type 0 where
  pub grows : GrowsTo s start now
  pub named : FoundNamed s c count now

-- the anchor and what the first mutators hold was found, and all of it waits
pub record RootsSoFar (s : State) (count : ℕ) (now : Search) : Type 0 where
  pub size : length now.marks ≡ s.cells
  pub sound : (c : ℕ) → has_found now c ≡ true → Reachable s c
  pub found : (c : ℕ) → Contains now.waiting c → has_found now c ≡ true
  pub anchor : has_found now 0 ≡ true
  pub held : (i : ℕ) → i < count → FoundHeld s i now
  pub waits : (c : ℕ) → has_found now c ≡ true → Contains now.waiting c
