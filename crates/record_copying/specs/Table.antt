-- The value of a table of copies, and what holds of its memory.
-- Source: this project's.
use Rattle.std.specs.Prelude.{ℕ, ◌≡◌, ◌<◌, ◌≤◌, Bool, true, false, List, length, slice_index_or}
use Rattle.minor_heap.specs.Spans.{NoneMarked}

pub record Table : Type 0 where
  -- how many records it serves
  pub room : ℕ
  -- by record, whether its copy is there, and at which place
  pub copied : List Bool
  pub places : List ℕ

-- no record from this one on has a copy
abbrev pub AreBelow : ℕ → List Bool → Type 0
AreBelow records copied = (k : ℕ) → slice_index_or copied k false ≡ true → k < records

-- it serves so many records, and none is marked
pub record IsTableFor (room : ℕ) (marks copied : List Bool) (places : List ℕ) : Type 0 where
  pub marks_fit : room ≤ length marks
  pub copied_fit : room ≤ length copied
  pub places_fit : room ≤ length places
  pub none_marked : NoneMarked marks
