-- What the collector's thread owns, and what becomes of its seat.
-- Source: this project's.
use Rattle.std.specs.Prelude.{ℕ, ◌≡◌, ◌≤◌, ◌+◌, ◌++◌, Bool, true, false}
use Rattle.std.specs.Prelude.{List, [], ◌∷◌, Option, Some, None}
use Rattle.cell_heap.specs.Telling.{AreJoined, collector_tells}
use Rattle.cell_words.specs.declared.controls.Stage.TheVariants as stage
use Rattle.beside_collector.specs.Freed.{HasFreed}
use Rattle.beside_collector.specs.declared.keeper.Keeper.{Keeper}
use Rattle.beside_collector.specs.declared.keeper.Standby.{Standby}
use Rattle.beside_collector.specs.declared.serving.Turn.{Turn}
use Rattle.beside_collector.specs.declared.serving.Turn.TheVariants as turns
use Rattle.collector.specs.Cycles.{Served}
use Rattle.collector.specs.Over.{MeetOver}
use Rattle.core_machine.specs.State.{greatest_cycles}
use Rattle.core_machine.specs.declared.events.Event.TheVariants as event
use Rattle.core_machine.specs.declared.events.Found.TheVariants as finds
use Rattle.core_machine.specs.declared.events.Taken.{Taken}
use Rattle.crossbeam_queue.specs.Passes.{Pass as QueuePass}
use Rattle.free_cells.specs.Hints.{cells_of as hinted_of}
use Rattle.free_cells.specs.Passes.{IsHintPass}
use Rattle.free_cells.specs.declared.counts.Counts.{Counts}
use Rattle.free_cells.specs.declared.queue.FreeQueue.{FreeQueue}
use Rattle.heap_rule.specs.Rule.{took}
use Rattle.heap_table.specs.Seats.{HeapId, IsSeatOf, SeatView}

-- the collector went off duty, if it did
abbrev pub off_first : Bool → List Taken
off_first true = took (event.Duty false) finds.Stored ∷ []
off_first false = []

module _ {P : Type 0} where
  -- The collector's seat is as it was, except for where the parts of its mutators are.
  pub record IsStill (old new : SeatView P) : Type 0 where
    pub table : new.table ≡ old.table
    pub shape : new.me.shape ≡ old.me.shape
    pub control : new.me.control ≡ old.me.control
    pub trail : new.me.trail ≡ old.me.trail

  -- The collector's seat of this heap, between two cycles, which may make so many more cycles; with
  -- a pass of the hints of the heap's cells.
  pub record IsKeeper (heap : HeapId) (queue : FreeQueue) (cycles : ℕ) (seat : SeatView P)
      (pass : QueuePass ℕ Counts) : Type 0 where
    pub seat_is : IsSeatOf heap seat
    pub idle : seat.me.control.stage ≡ stage.Idle
    pub few : seat.me.control.cycles + cycles ≤ greatest_cycles
    pub pass_is : IsHintPass queue pass
    pub cells : hinted_of queue ≡ heap.shape.cells

  -- The collector served: it made at most so many cycles, and is off duty. The seat is of the same
  -- heap, and the parts of its mutators are where they were.
  pub record Serves (cycles : ℕ) (old new : SeatView P) : Type 0 where
    pub table : new.table ≡ old.table
    pub shape : new.me.shape ≡ old.me.shape
    pub role : new.me.role ≡ old.me.role
    pub places : new.me.places ≡ old.me.places
    pub made : ℕ
    pub freed : ℕ
    pub added : List Taken
    pub trail : new.me.trail ≡ old.me.trail ++ added
    pub served : Served old.me.shape.mutators cycles made freed added
    pub cycles_are : new.me.control.cycles ≡ old.me.control.cycles + made
    pub idle : new.me.control.stage ≡ stage.Idle
    pub off_duty : new.me.control.duty ≡ false
    -- where all seats were joined before, each mutator was found over
    pub late : AreJoined old.me → MeetOver added

  -- the turn: it served, and freed so many cells, or it was held back
  abbrev pub TurnOf : ℕ → Keeper P → Turn P → Type 0
  TurnOf cycles keeper (turns.Served now freed) =
      Serves cycles keeper.seat now × HasFreed keeper.seat now freed
  TurnOf cycles keeper (turns.HandedBack now) = now ≡ keeper

  -- the seat, which went off duty
  abbrev pub gone_off : SeatView P → SeatView P
  gone_off seat = collector_tells seat (event.Duty false) finds.Stored

  -- after the turn: it served, or went off duty and may still serve
  abbrev pub StandsBy : HeapId → FreeQueue → ℕ → SeatView P → Turn P → Type 0
  StandsBy heap queue cycles was (turns.Served now freed) =
      Serves cycles was now × HasFreed was now freed
  StandsBy heap queue cycles was (turns.HandedBack keeper) =
      IsKeeper heap queue cycles keeper.seat keeper.pass × (keeper.seat ≡ gone_off was)

  -- the seat has served, where nothing is returned with it; else it went off duty, and may serve
  abbrev pub Stands : HeapId → FreeQueue → ℕ → SeatView P → SeatView P
      → Option Standby → Type 0
  Stands heap queue cycles was seat None = Serves cycles was seat
  Stands heap queue cycles was seat (Some standby) =
      IsKeeper heap queue cycles seat standby.pass × (seat ≡ gone_off was)

  -- The service that is still to come.

  abbrev pub MayServe : HeapId → FreeQueue → ℕ → SeatView P → Option Standby → Type 0
  MayServe heap queue cycles seat None = Unit {0}
  MayServe heap queue cycles seat (Some standby) = IsKeeper heap queue cycles seat standby.pass

  abbrev pub ServesLate : ℕ → Option Standby → SeatView P → SeatView P → Type 0
  ServesLate cycles None old new = new ≡ old
  ServesLate cycles (Some standby) old new = Serves cycles old new
