-- How many cells the collector's seat has freed.
-- Source: this project's.
use Rattle.std.specs.Prelude.{ℕ, ◌≡◌, ◌+◌, false, List}
use Rattle.std.specs.List.{count_by}
use Rattle.collector.specs.Counting.{is_free}
use Rattle.core_machine.specs.declared.events.Taken.{Taken}
use Rattle.heap_table.specs.Seats.{SeatView}

abbrev pub freed_by : List Taken → ℕ
freed_by events = count_by (λ (t : Taken). is_free t.event) events

module _ {P : Type 0} where
  -- it has freed so many more
  abbrev pub HasFreed : SeatView P → SeatView P → ℕ → Type 0
  HasFreed old new freed = freed_by new.me.trail ≡ freed_by old.me.trail + freed

  -- Whether it has served or may still serve: the seat is of the same heap, the parts of its
  -- mutators are where they were, it is off duty, and it has freed so many more cells.
  pub record Settled (old new : SeatView P) (freed : ℕ) : Type 0 where
    pub table : new.table ≡ old.table
    pub shape : new.me.shape ≡ old.me.shape
    pub places : new.me.places ≡ old.me.places
    pub off_duty : new.me.control.duty ≡ false
    pub freed_are : HasFreed old new freed
