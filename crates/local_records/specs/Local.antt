-- The private records of one mutator, with the roots that reach them and the copies that they have;
-- and what holds of them, given what the mutator knows of the places that it holds.
-- Source: this project's.
use Rattle.std.specs.Prelude.{ℕ, ◌≡◌, ◌≢◌, ◌<◌, ◌≤◌, ◌+◌, Bool, List, All, length, take}
use Rattle.heap_rule.specs.Lore.{known_at}
use Rattle.heap_rule.specs.declared.known.Known.{Known}
use Rattle.heap_rule.specs.declared.known.Known.TheVariants as knows
use Rattle.cell_words.specs.Term.{Term}
use Rattle.minor_heap.specs.declared.fields.MinorField.{MinorField}
use Rattle.minor_heap.specs.declared.fields.MinorField.TheVariants as field
use Rattle.aged_nursery.specs.Aged.{Aged}
use Rattle.local_references.specs.declared.roots.Root.{Root}
use Rattle.local_references.specs.declared.roots.Root.TheVariants as root
use Rattle.local_references.specs.Roots.{AllStand, Stack}
use Rattle.record_copying.specs.Copies.{AllShare, AreCopies}
use Rattle.record_copying.specs.Table.{AreBelow, Table}

pub record Local : Type 0 where
  -- how many records there is room for, and the records, the oldest first
  pub room : ℕ
  pub records : List (List MinorField)
  -- how many of the first records the last ageing kept
  pub aged : ℕ
  -- by record, whether it has a copy in the shared heap, and at which place
  pub copied : List Bool
  pub places : List ℕ
  -- how many roots there is room for, and the roots, the oldest first
  pub most : ℕ
  pub roots : List Root
  -- the turn that references are of
  pub turn : ℕ
  -- only places below this one are of fields, copies and roots
  pub named : ℕ

-- its parts fit one another
pub record IsWhole (nursery : Aged) (table : Table) (stack : Stack) : Type 0 where
  pub whole : nursery.heap.room ≡ nursery.records
  pub serves : table.room ≡ nursery.heap.room
  pub stand : AllStand nursery.heap.records stack.roots
  pub below : AreBelow (length nursery.heap.records) table.copied

-- a field that is a place is one of the first n
abbrev pub IsFieldBelow : ℕ → MinorField → Type 0
IsFieldBelow n field.Null = Unit {0}
IsFieldBelow n (field.Num value) = Unit {0}
IsFieldBelow n (field.Minor r) = Unit {0}
IsFieldBelow n (field.Shared place) = place < n

-- a root that is a place is one of the first n
abbrev pub IsRootBelow : ℕ → Root → Type 0
IsRootBelow n root.Null = Unit {0}
IsRootBelow n (root.Num value) = Unit {0}
IsRootBelow n (root.Private r) = Unit {0}
IsRootBelow n (root.Shared place) = place < n

-- Of the places up to `named` each that a field of a record shares is known as a record, and each
-- copy is known as one with the term of its own; roots are such places too, of any sort.
pub record AreLocal (known : List Known) (named : ℕ) (records : List (List MinorField))
    (copied : List Bool) (places : List ℕ) (roots : List Root) : Type 0 where
  pub within : named ≤ length known
  pub shares : AllShare (take named known) records
  pub copies : AreCopies (take named known) records copied places
  pub below : All (IsRootBelow named) roots

abbrev pub IsLocal : Local → List Known → Type 0
IsLocal l known = AreLocal known l.named l.records l.copied l.places l.roots

-- what was known as a record at one of the first n places still is, with the same term
abbrev pub StillBelow : ℕ → List Known → List Known → Type 0
StillBelow n known later =
    (place : ℕ) (t : Term) → place < n → known_at known place ≡ knows.Record t
    → known_at later place ≡ knows.Record t

-- it is the turn after this one, and after the last turn the last again
pub record IsNextTurn (turn next : ℕ) : Type 0 where
  pub more : turn ≢ 4294967295 → next ≡ turn + 1
  pub last : turn ≡ 4294967295 → next ≡ turn
