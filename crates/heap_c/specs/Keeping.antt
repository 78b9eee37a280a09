-- What the collector's handle owns, as contracts see it.
-- Source: this project's.
use Rattle.std.specs.Prelude.{ℕ, ◌≡◌, ◌<◌, ◌≤◌, Option, Some, None}
use mathlib.Core.Option.{some}
use lib.ListN.{get_elem?}
use Rattle.collector.specs.Bound.{Bound, IsBound}
use Rattle.collector.specs.Stack.{Stack}
use Rattle.collector.specs.Stepping.{Steps}
use Rattle.heap_rule.specs.declared.view.Place.TheVariants as places
use Rattle.heap_table.specs.Seats.{HeapId, SeatView}
use Rattle.sorted_rule.specs.declared.sorting.Sorting.{Sorting}

-- a collector taken apart, between two moves: its seat, its mark stack, and how many mutators have
-- answered the handshake
pub record Worked : Type 0 where
  pub seat : SeatView Sorting
  pub stack : Stack
  pub heard : ℕ

-- a heap, its collector's parts, how many mutators have been given their seats, and how many fields
-- of each box name boxes
pub record Keeps : Type 0 where
  pub heap : HeapId
  pub works : Option Worked
  pub given : ℕ
  pub boxes : ℕ

-- the mutators from this number on have no seat yet
abbrev pub AreLeft : ℕ → SeatView Sorting → Type 0
AreLeft given seat =
    (n : ℕ) → given ≤ n → n < seat.me.shape.mutators → get_elem? seat.me.places n
    ≡ some places.Unsplit

-- the collector of these parts
abbrev pub collector_of : HeapId → Worked → Bound Sorting
collector_of heap w = record { heap = heap; seat = w.seat; stack = w.stack }

-- The parts are a collector of this heap, which may be moved on.
pub record IsWorked (heap : HeapId) (w : Worked) : Type 0 where
  pub bound : IsBound heap w.seat heap.shape.mutators w.stack
  pub steps : Steps w.heard (collector_of heap w)

pub record IsKeptBy (heap : HeapId) (w : Worked) (given boxes : ℕ) : Type 0 where
  pub worked : IsWorked heap w
  pub few : given ≤ heap.shape.mutators
  pub setting : heap.shape.setting ≡ boxes
  pub some : 1 ≤ boxes
  pub left : AreLeft given w.seat

abbrev pub IsKeeping : HeapId → Option Worked → (given boxes : ℕ) → Type 0
IsKeeping heap None given boxes = ⊥
IsKeeping heap (Some w) given boxes = IsKeptBy heap w given boxes
