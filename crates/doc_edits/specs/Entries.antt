-- The entries among the records of a pool, as a pool of entries shows them.
-- Source: this project's.
use Rattle.std.specs.Prelude.{◌≡◌, ℕ, ◌+◌, ◌-◌, ◌≤◌, ◌<◌, ◌^◌, Option, Some, None, min}
use Rattle.cell_words.specs.Term.{IsFive}
use Rattle.kids_avl.specs.declared.bounds.TheConstants.{MOST_LEVELS}
use Rattle.kids_avl.specs.Entries.{IsEntry, height_of}
use Rattle.doc_records.specs.declared.pool.Part.{Part}
use Rattle.doc_records.specs.declared.pool.Part.TheVariants as parts
use Rattle.doc_records.specs.Pool.{Shown, Later}
use Rattle.doc_records.specs.Trees.{AreEntries, IsNodeAt, entries_of}

-- An entry stands here, with all that it leads to. It is no higher than the entries were at first
-- and so many makings let it be. A place is free, since a look at a number asks for one.
pub record IsEntryAt {At F : Type 0} (s : Shown At F) (made : ℕ) (a : At) : Type 0 where
  pub stands : s.stands s.held a
  pub five : IsFive (s.term a)
  pub entries : AreEntries (s.term a)
  pub entry : IsEntry (entries_of (s.term a))
  pub low : height_of (entries_of (s.term a)) ≤ MOST_LEVELS + made
  pub place : s.held < s.room

-- the entries on one side of an entry, or none
abbrev pub IsSideAt : {At F : Type 0} → Shown At F → ℕ → Part At → Type 0
IsSideAt s made parts.Null = Unit {0}
IsSideAt s made (parts.Num n) = ⊥
IsSideAt s made (parts.Record a) = IsEntryAt s made a

-- a node stands here, and a place is free
pub record IsChildAt {At F : Type 0} (s : Shown At F) (a : At) : Type 0 where
  pub node : IsNodeAt s a
  pub place : s.held < s.room

-- what a pool of entries keeps of the records that it borrowed
pub record IsKept {At F : Type 0} (start now : Shown At F) (lent_start lent_now : ℕ) : Type 0 where
  pub later : Later start now
  pub lent : lent_now ≡ lent_start

-- how many places are left for entries: one is kept free
abbrev pub places_left : {At F : Type 0} → Shown At F → ℕ
places_left s = s.room - (s.held + 1)

-- how many entries a pool of them lets be made, far more than any call makes
abbrev pub most_made : ℕ
most_made = 2 ^ 40

abbrev pub records_left : {At F : Type 0} → Shown At F → ℕ → ℕ
records_left s made = min s.records (most_made - made)

-- a part as the top of entries, and back
abbrev pub top_of : {At : Type 0} → Part At → Option At
top_of parts.Null = None
top_of (parts.Num n) = None
top_of (parts.Record a) = Some a

abbrev pub part_of : {At : Type 0} → Option At → Part At
part_of None = parts.Null
part_of (Some a) = parts.Record a
