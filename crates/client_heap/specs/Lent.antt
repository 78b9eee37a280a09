-- What a client's heap borrows for a command, and what no call changes of that.
-- Source: this project's.
use Rattle.std.specs.Prelude.{ℕ, Bool}
use Rattle.atomic_table.specs.Seated.{TableId}
use Rattle.free_cells.specs.declared.queue.FreeQueue.{FreeQueue}
use Rattle.heap_rule.specs.Shape.{Shape}
use Rattle.heap_rule.specs.declared.view.Role.{Role}
use Rattle.heap_table.specs.Seats.{HeapId}
use Rattle.mutator_seat.specs.Bound.{Bound}
use Rattle.version_rule.specs.Pass.{Pass}

-- which mutator it is, of which heap, with how much room, and whether it is in and over
pub record Identity : Type 0 where
  pub heap : HeapId
  pub table : TableId
  pub shape : Shape
  pub role : Role
  pub number : ℕ
  pub room : ℕ
  pub inside : Bool
  pub over : Bool

abbrev pub identity_of : Bound Pass → Identity
identity_of m = record {
  heap = m.heap;
  table = m.seat.table;
  shape = m.seat.me.shape;
  role = m.seat.me.role;
  number = m.seat.me.number;
  room = m.seat.me.room;
  inside = m.seat.me.presence.inside;
  over = m.seat.me.presence.over;
}

-- in addition to the names of what is borrowed: the mutator, the queue of its hints, how many
-- private records there is room for, and how many can be copied
pub record Lent : Type 0 where
  pub mutator_name : ℕ
  pub hints_name : ℕ
  pub nursery_name : ℕ
  pub promoter_name : ℕ
  pub mutator : Identity
  pub queue : FreeQueue
  pub records : ℕ
  pub copies : ℕ
