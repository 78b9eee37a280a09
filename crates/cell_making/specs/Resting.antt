-- What a mutator that works from the anchor on has between two calls, under any rule.
-- Source: this project's.
use Rattle.std.specs.Prelude.{ℕ, ◌≡◌, length}
use Rattle.held_places.specs.Calls.{IsIn}
use Rattle.mutator_seat.specs.Bound.{Bound}

module _ {P : Type 0} where
  -- it is in, holds the anchor, and has this room
  pub record Loose (room : ℕ) (m : Bound P) : Type 0 where
    pub is_in : IsIn m
    pub room_is : m.seat.me.room ≡ room

  -- only the anchor
  pub record Rests (room : ℕ) (m : Bound P) : Type 0 where
    pub loose : Loose room m
    pub alone : length m.seat.me.own.held ≡ 1

  -- it is the mutator of the same heap, and its pass is this
  pub record HasPass (pass : P) (old new : Bound P) : Type 0 where
    pub heap : new.heap ≡ old.heap
    pub number_is : new.seat.me.number ≡ old.seat.me.number
    pub pass_is : new.seat.me.pass ≡ pass
