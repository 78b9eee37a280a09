-- A mutator that comes in, goes out and is over, under any rule.
-- Source: this project's.
use Rattle.std.specs.Prelude.{◌≡◌, true, length}
use Rattle.heap_table.specs.Seats.{HeapId, SeatView}
use Rattle.mutator_seat.specs.Bound.{Bound}
use Rattle.trails.specs.Marks.{marks_of}

module _ {P : Type 0} where
  -- The mutator of this seat came in, and holds only the anchor.
  pub record Entered (heap : HeapId) (seat : SeatView P) (m : Bound P) : Type 0 where
    pub heap_is : m.heap ≡ heap
    pub table : m.seat.table ≡ seat.table
    pub shape : m.seat.me.shape ≡ seat.me.shape
    pub number : m.seat.me.number ≡ seat.me.number
    pub room : m.seat.me.room ≡ seat.me.room
    pub pass : m.seat.me.pass ≡ seat.me.pass
    pub inside : m.seat.me.presence.inside ≡ true
    pub one : length m.seat.me.own.held ≡ 1

  -- The mutator went out, and this is its seat: its trail shows no more than before.
  pub record Left (m : Bound P) (seat : SeatView P) : Type 0 where
    pub table : seat.table ≡ m.seat.table
    pub shape : seat.me.shape ≡ m.seat.me.shape
    pub number : seat.me.number ≡ m.seat.me.number
    pub room : seat.me.room ≡ m.seat.me.room
    pub pass : seat.me.pass ≡ m.seat.me.pass
    pub claims : seat.me.own.claims ≡ m.seat.me.own.claims
    pub marks : marks_of seat.me.trail ≡ marks_of m.seat.me.trail
    pub over : seat.me.presence.over ≡ true

  -- It is the same mutator, in or out: its pass is as it was, and its trail shows nothing more.
  pub record IsSame (old new : Bound P) : Type 0 where
    pub heap : new.heap ≡ old.heap
    pub table : new.seat.table ≡ old.seat.table
    pub shape : new.seat.me.shape ≡ old.seat.me.shape
    pub number : new.seat.me.number ≡ old.seat.me.number
    pub room : new.seat.me.room ≡ old.seat.me.room
    pub pass : new.seat.me.pass ≡ old.seat.me.pass
    pub claims : new.seat.me.own.claims ≡ old.seat.me.own.claims
    pub marks : marks_of new.seat.me.trail ≡ marks_of old.seat.me.trail
