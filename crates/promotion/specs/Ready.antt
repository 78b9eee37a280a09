-- The memory of a promoter between its calls.
-- Source: this project's.
use Rattle.std.specs.Prelude.{ℕ, ◌≤◌, Bool, List, Option, length}
use Rattle.minor_heap.specs.Spans.{NoneMarked}

-- it serves so many records, and none is marked
pub record IsReadyFor (room : ℕ) (marks : List Bool) (taken : List (Option ℕ)) (places : List ℕ)
    : Type 0 where
  pub marks_fit : room ≤ length marks
  pub taken_fit : room ≤ length taken
  pub places_fit : room ≤ length places
  pub none_marked : NoneMarked marks
