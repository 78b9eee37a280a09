-- What a mutator of these tests knows between two claims.
-- Source: this project's.
use Rattle.std.specs.Prelude.{ℕ, ◌≡◌, ◌≤◌, true, [], ◌∷◌, length}
use Rattle.heap_rule.specs.declared.keeping.NoRule.{NoRule}
use Rattle.heap_rule.specs.declared.known.Known.{Known}
use Rattle.heap_table.specs.Seats.{HeapId, IsSeatOf}
use Rattle.mutator_seat.specs.Bound.{Bound}

-- it is in, at this heap, holds so many places, and has at least so many
pub record Holds (heap : HeapId) (room many : ℕ) (m : Bound NoRule) : Type 0 where
  pub heap_is : m.heap ≡ heap
  pub seat_is : IsSeatOf heap m.seat
  pub inside : m.seat.me.presence.inside ≡ true
  pub held : length m.seat.me.own.held ≡ many
  pub fits : room ≤ m.seat.me.room

-- it holds the anchor alone, and room is left for one cell more
pub record HoldsOne (heap : HeapId) (m : Bound NoRule) : Type 0 where
  pub holds : Holds heap 2 1 m
  pub known : Known
  pub knows : m.seat.me.known ≡ known ∷ []
