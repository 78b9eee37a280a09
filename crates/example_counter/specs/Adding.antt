-- What a thread has before it begins, and knows of its mutator between two calls.
-- Source: this project's.
use Rattle.std.specs.Prelude.{ℕ, ◌≡◌, ◌≤◌, ◌+◌, true, List, [], ◌∷◌}
use Rattle.free_cells.specs.declared.queue.FreeQueue.{FreeQueue}
use Rattle.heap_rule.specs.declared.known.Known.{Known}
use Rattle.heap_rule.specs.declared.known.Known.TheVariants as knows
use Rattle.heap_table.specs.Seats.{HeapId, SeatView}
use Rattle.mutator_events.specs.declared.values.Value.{Value}
use Rattle.mutator_events.specs.declared.values.Value.TheVariants as values
use Rattle.mutator_seat.specs.Bound.{Bound, held_cells}
use Rattle.mutator_threads.specs.Mutators.{IsOver, IsWorker}
use Rattle.example_counter.specs.declared.counter.Added.{Added}
use Rattle.mutator_threads.specs.declared.worker.Worker.{Worker}
use Rattle.example_counter.specs.Counting.{nothing_added, number_record}
use Rattle.example_counter.specs.declared.running.Adder.{Adder}

-- it is in, and holds the anchor and then these cells, of which it knows this
pub record Holds (cells : List ℕ) (more : List Known) (m : Bound Added) : Type 0 where
  pub inside : m.seat.me.presence.inside ≡ true
  pub held : held_cells m ≡ 0 ∷ cells
  pub first : Known
  pub known : m.seat.me.known ≡ first ∷ more
  pub room : m.seat.me.room ≡ 8

-- only the anchor
abbrev pub Rests : Bound Added → Type 0
Rests m = Holds [] [] m

-- and a record of this number
pub record HoldsCount (count : ℕ) (m : Bound Added) : Type 0 where
  pub cell : ℕ
  pub holds : Holds (cell ∷ []) (knows.Record (number_record count) ∷ []) m

pub record Loose (m : Bound Added) : Type 0 where
  pub cells : List ℕ
  pub more : List Known
  pub holds : Holds cells more m

pub record HoldsSome (m : Bound Added) : Type 0 where
  pub count : ℕ
  pub holds : HoldsCount count m

-- and one of the next number
pub record HoldsNext (count : ℕ) (m : Bound Added) : Type 0 where
  pub cell : ℕ
  pub next : ℕ
  pub holds : Holds (cell ∷ next ∷ [])
      (knows.Record (number_record count) ∷ knows.Record (number_record (count + 1)) ∷ []) m

-- it is the mutator of the same heap, and has added so much more
pub record Adds (more : ℕ) (old new : Bound Added) : Type 0 where
  pub heap : new.heap ≡ old.heap
  pub number : new.seat.me.number ≡ old.seat.me.number
  pub pass : new.seat.me.pass ≡ record { sum = old.seat.me.pass.sum + more }

abbrev pub IfHeld : Value → Type 0 → Type 0 → Type 0
IfHeld (values.Held place) A B = (place ≡ 1) × A
IfHeld values.Null A B = B
IfHeld (values.Num n) A B = B

abbrev pub IfNumber : Value → (ℕ → Type 0) → Type 0 → Type 0
IfNumber (values.Num n) A B = A n
IfNumber values.Null A B = B
IfNumber (values.Held place) A B = B

-- it is over, and has added so much
pub record IsDone (heap : HeapId) (number sum : ℕ) (seat : SeatView Added) : Type 0 where
  pub is_over : IsOver heap number seat
  pub pass_is : seat.me.pass ≡ record { sum = sum }
  pub few : sum ≤ 4294967295

-- what a thread has of its own before it begins: a private heap of one record
pub record IsIdle (adder : Adder) : Type 0 where
  pub minor : adder.nursery.minor.room ≡ 1
  pub promoter : adder.nursery.promoter ≡ 1

abbrev pub IsAdder : HeapId → FreeQueue → ℕ → Worker Added Adder → Type 0
IsAdder heap queue number worker =
    IsWorker nothing_added heap queue 8 (λ (place : ℕ) (adder : Adder). IsIdle adder) number worker

-- it is over, and has added what it counted
abbrev pub HasAdded : HeapId → ℕ → Worker Added Adder → Type 0
HasAdded heap number worker = IsDone heap number worker.own.sum worker.seat
