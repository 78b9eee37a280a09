-- What the collector of these tests knows, in a heap of one mutator.
-- Source: this project's.
use Rattle.std.specs.Prelude.{◌≡◌, [], ◌∷◌, false}
use Rattle.cell_tests.specs.declared.collecting.Flags.{Flags}
use Rattle.heap_rule.specs.declared.keeping.NoRule.{NoRule}
use Rattle.heap_table.specs.Seats.{HeapId, IsSeatOf, SeatView}

pub record Drives (heap : HeapId) (flags : Flags) (seat : SeatView NoRule) : Type 0 where
  pub seat_is : IsSeatOf heap seat
  pub one : heap.shape.mutators ≡ 1
  pub answered : seat.me.part.answered ≡ flags.answered ∷ []
  pub marked : seat.me.part.anchor_marked ≡ flags.marked

-- the flags of a collector that has done nothing yet
abbrev pub nothing : Flags
nothing = record { answered = false; marked = false; polled = false }
