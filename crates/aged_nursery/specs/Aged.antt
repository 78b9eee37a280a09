-- A private heap whose survivors age, and what holds of its parts besides the heap in use.
-- Source: this project's; two spaces of one size, one of them empty, are those of C. J. Cheney, A
-- nonrecursive list compacting algorithm, Communications of the ACM 13 (1970).
use Rattle.std.specs.Prelude.{ℕ, ◌≡◌, Bool, List, [], length}
use Rattle.minor_heap.specs.Nursery.{Nursery}
use Rattle.minor_heap.specs.Spans.{NoneMarked}

pub record Aged : Type 0 where
  -- the one in use
  pub heap : Nursery
  -- how many records it may copy
  pub records : ℕ
  -- how many of the first records the last ageing kept
  pub aged : ℕ

-- the other heap is empty, and it and what is kept for each record have the same room
pub record IsSpare (other : Nursery) (marks : List Bool) (numbers : List ℕ) : Type 0 where
  pub empty : other.records ≡ []
  pub room : other.room ≡ length marks
  pub numbered : length numbers ≡ length marks
  pub none : NoneMarked marks
