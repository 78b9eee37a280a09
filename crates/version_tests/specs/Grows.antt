-- What a test knows of a mutator between two calls.
-- Source: this project's.
use Rattle.std.specs.Prelude.{ℕ, ◌≡◌, ◌≤◌, ◌+◌, true, [], length}
use Rattle.heap_rule.specs.Asks.{MayComeIn}
use Rattle.heap_table.specs.Seats.{HeapId, IsSeatOf, SeatView}
use Rattle.mutator_seat.specs.Bound.{Bound}
use Rattle.version_rule.specs.Pass.{Pass}
use Rattle.version_rule.specs.declared.held.HeldVersion.{HeldVersion}
use Rattle.version_store.specs.Held.{IsHeld}
use Rattle.version_store.specs.Lasts.{IsSameMutator}

-- a seat that was just split off, with much room
pub record IsNew (heap : HeapId) (keep : ℕ) (seat : SeatView Pass) : Type 0 where
  pub seat_is : IsSeatOf heap seat
  pub out : MayComeIn seat.me
  pub room : 300 ≤ seat.me.room
  pub keep_is : seat.me.pass.keep ≡ keep
  pub none_made : seat.me.pass.commits ≡ []

-- a seat of a mutator that is over
pub record IsOver (heap : HeapId) (seat : SeatView Pass) : Type 0 where
  pub seat_is : IsSeatOf heap seat
  pub over : seat.me.presence.over ≡ true

-- a mutator of this heap
pub record IsOf (heap : HeapId) (m : Bound Pass) : Type 0 where
  pub heap_is : m.heap ≡ heap
  pub seat_is : IsSeatOf heap m.seat

-- a mutator that is in, with some places and no more than so many, and as many commits at most
pub record Works (places commits keep : ℕ) (m : Bound Pass) : Type 0 where
  pub inside : m.seat.me.presence.inside ≡ true
  pub some : 1 ≤ length m.seat.me.own.held
  pub held : length m.seat.me.own.held ≤ places
  pub room : 300 ≤ m.seat.me.room
  pub keep_is : m.seat.me.pass.keep ≡ keep
  pub made : length m.seat.me.pass.commits ≤ commits

-- what a call adds to that, and which versions are still held
pub record Grows (places commits : ℕ) (old new : Bound Pass) : Type 0 where
  pub same : IsSameMutator old new
  pub longer : length old.seat.me.own.held ≤ length new.seat.me.own.held
  pub held : length new.seat.me.own.held ≤ length old.seat.me.own.held + places
  pub keep : new.seat.me.pass.keep ≡ old.seat.me.pass.keep
  pub made : length new.seat.me.pass.commits ≤ length old.seat.me.pass.commits + commits
  pub versions : (v : HeldVersion) → IsHeld old v → IsHeld new v
