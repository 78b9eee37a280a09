-- The roots that a program keeps: null, numbers, private records, and places of the held list.
-- Source: this project's.
use Rattle.std.specs.Prelude.{ℕ, ◌≡◌, ◌<◌, ◌≤◌, List, [], ◌∷◌, length, slice_index_or, take}
use Rattle.cell_words.specs.Term.{Term, null, num}
use Rattle.minor_heap.specs.declared.fields.MinorField.{MinorField}
use Rattle.minor_heap.specs.declared.fields.MinorRef.{MinorRef}
use Rattle.minor_heap.specs.Nursery.{Stands}
use Rattle.minor_heap.specs.Terms.{term_of}
use Rattle.local_references.specs.declared.roots.Root.{Root}
use Rattle.local_references.specs.declared.roots.Root.TheVariants as root

-- A stack of them: how many roots there is room for, and the roots, the oldest first.
pub record Stack : Type 0 where
  pub room : ℕ
  pub roots : List Root
  -- the records that were taken out of it last
  pub taken : List MinorRef

-- a private root stands
abbrev pub RootStands : List (List MinorField) → Root → Type 0
RootStands records root.Null = Unit {0}
RootStands records (root.Num n) = Unit {0}
RootStands records (root.Private r) = Stands records r
RootStands records (root.Shared place) = Unit {0}

-- it is a record
abbrev pub IsPrivate : Root → Type 0
IsPrivate root.Null = ⊥
IsPrivate (root.Num n) = ⊥
IsPrivate (root.Private r) = Unit {0}
IsPrivate (root.Shared place) = ⊥

-- what a root denotes, from the terms of the shared places
abbrev pub root_term : List Term → List (List MinorField) → Root → Term
root_term shared records root.Null = null
root_term shared records (root.Num n) = num n
root_term shared records (root.Private r) = term_of shared records r
root_term shared records (root.Shared place) = slice_index_or shared place null

-- a root, or past the end null
abbrev pub slot_at : List Root → ℕ → Root
slot_at slots k = slice_index_or slots k root.Null

-- the private ones stand
abbrev pub AllStand : List (List MinorField) → List Root → Type 0
AllStand records slots = (k : ℕ) → RootStands records (slot_at slots k)

-- the private ones, in order
abbrev pub private_of : List Root → List MinorRef
private_of [] = []
private_of (root.Null ∷ slots) = private_of slots
private_of (root.Num n ∷ slots) = private_of slots
private_of (root.Private r ∷ slots) = r ∷ private_of slots
private_of (root.Shared place ∷ slots) = private_of slots

-- how many of the first n roots are private
abbrev pub rank : List Root → ℕ → ℕ
rank slots n = length (private_of (take n slots))

-- a private root is the record at this place of the list, and another one is as it was
abbrev pub IsMoved : List MinorRef → ℕ → Root → Root → Type 0
IsMoved refs n root.Null new = new ≡ root.Null
IsMoved refs n (root.Num k) new = new ≡ root.Num k
IsMoved refs n (root.Private r) new =
    new ≡ root.Private (slice_index_or refs n record { number = 0 })
IsMoved refs n (root.Shared place) new = new ≡ root.Shared place

-- the private roots, in order, are these records
pub record AreMoved (old : List Root) (refs : List MinorRef) (new : List Root) : Type 0 where
  pub many : length new ≡ length old
  pub moved : (k : ℕ) → k < length old → IsMoved refs (rank old k) (slot_at old k) (slot_at new k)

-- Each root denotes what it did, whatever the shared places stand for. A private one stays private,
-- and another one is as it was.
pub record RootsKeep (before : List (List MinorField)) (old : List Root)
    (after : List (List MinorField)) (new : List Root) : Type 0 where
  pub many : length new ≡ length old
  pub stand : AllStand after new
  pub terms : (shared : List Term) (k : ℕ)
      → root_term shared after (slot_at new k) ≡ root_term shared before (slot_at old k)
  pub private : (k : ℕ) → IsPrivate (slot_at old k) → IsPrivate (slot_at new k)
  pub others : (k : ℕ) → (IsPrivate (slot_at old k) → ⊥) → slot_at new k ≡ slot_at old k

-- what holds of a stack's memory, with its capacities
pub record IsStack (slots : List Root) (room held spare : ℕ) : Type 0 where
  pub count : length slots ≤ room
  pub fits : room ≤ held
  pub spares : room ≤ spare
