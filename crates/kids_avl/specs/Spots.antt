-- Where an index of a row of children is found.
-- Source: this project's.
use Rattle.std.specs.Prelude.{◌≡◌, ℕ, ◌+◌, List, Option, Some, None}
use Rattle.doc_tree.specs.Tree.{DocTree}
use Rattle.kids_avl.specs.declared.reading.Spot.{Spot}
use Rattle.kids_avl.specs.declared.reading.Spot.TheVariants.{Here, Past}
use Rattle.kids_avl.specs.Entries.{Entries, name_of, child_of}

-- the name and the child at a spot
abbrev pub kid_of : {A : Type 0} → (A → Entries) → Spot A → Option (List ℕ × DocTree)
kid_of entries (Here a) = Some (name_of (entries a), child_of (entries a))
kid_of entries (Past more) = None

-- how far an index is past a row of so many
abbrev pub IsPast : {A : Type 0} → ℕ → ℕ → Spot A → Type 0
IsPast index count (Here a) = Unit {0}
IsPast index count (Past more) = index ≡ more + count

abbrev pub StandsHere : {A : Type 0} → (A → Type 0) → Spot A → Type 0
StandsHere stands (Here a) = stands a
StandsHere stands (Past more) = Unit {0}

-- the name and the child of an entry, or of none
abbrev pub kid_under : {A : Type 0} → (A → Entries) → Option A → Option (List ℕ × DocTree)
kid_under entries None = None
kid_under entries (Some a) = Some (name_of (entries a), child_of (entries a))
