-- What the program knows of a mutator between two calls.
-- Source: this project's.
use Rattle.std.specs.Prelude.{ℕ, ◌≡◌, ◌<◌, true, List, length, Option, Some}
use Rattle.cell_words.specs.Term.{Term}
use Rattle.heap_rule.specs.declared.known.Known.TheVariants as knows
use Rattle.heap_rule.specs.Asks.{known_of, target}
use Rattle.heap_table.specs.Seats.{HeapId, IsSeatOf, SeatView}
use Rattle.mutator_seat.specs.Bound.{Bound}
use Rattle.cell_making.specs.Resting.{Loose}
use Rattle.example_root.specs.Rule.{number_record}
use Rattle.example_root.specs.declared.kept.Kept.{Kept}

-- Its held list has room for eight places, the anchor first.

-- the box of the rule stands at place 1
pub record HasBox (m : Bound Kept) : Type 0 where
  pub there : 1 < length m.seat.me.own.held
  pub cell : target m.seat.me 1 ≡ 1
  pub told : List (Option Term)
  pub known : known_of m.seat.me 1 ≡ knows.Boxed told

-- the anchor and the box
pub record HoldsBox (m : Bound Kept) : Type 0 where
  pub loose : Loose 8 m
  pub two : length m.seat.me.own.held ≡ 2
  pub box : HasBox m

-- and the record of this number
pub record HoldsRecord (number : ℕ) (m : Bound Kept) : Type 0 where
  pub loose : Loose 8 m
  pub three : length m.seat.me.own.held ≡ 3
  pub box : HasBox m
  pub known : known_of m.seat.me 2 ≡ knows.Record (number_record number)

pub record HoldsSome (m : Bound Kept) : Type 0 where
  pub number : ℕ
  pub holds : HoldsRecord number m

-- it keeps some number
pub record KeepsSome (m : Bound Kept) : Type 0 where
  pub number : ℕ
  pub is : m.seat.me.pass.number ≡ Some number

-- it is the mutator of the same heap, and keeps this number or none
pub record Has (number : Option ℕ) (old new : Bound Kept) : Type 0 where
  pub heap : new.heap ≡ old.heap
  pub number_is : new.seat.me.number ≡ old.seat.me.number
  pub kept : new.seat.me.pass.number ≡ number

-- it is over, and keeps this number or none
pub record IsDone (heap : HeapId) (number : ℕ) (kept : Option ℕ) (seat : SeatView Kept)
    : Type 0 where
  pub seat_is : IsSeatOf heap seat
  pub number_is : seat.me.number ≡ number
  pub over : seat.me.presence.over ≡ true
  pub kept_is : seat.me.pass.number ≡ kept
