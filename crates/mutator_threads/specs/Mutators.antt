-- The mutators of a heap and its collector, before they begin and when they are through.
-- Source: this project's.
use Rattle.std.specs.Prelude.{ℕ, ◌≡◌, true, false, List, [], length, map, Option}
use Rattle.beside_collector.specs.Duty.{duty_on}
use Rattle.beside_collector.specs.Freed.{freed_by}
use Rattle.beside_collector.specs.Places.{AllFrom}
use Rattle.beside_collector.specs.Serving.{IsStill, Stands}
use Rattle.beside_collector.specs.declared.keeper.Keeper.{Keeper}
use Rattle.beside_collector.specs.declared.keeper.Standby.{Standby}
use Rattle.cell_heap.specs.Telling.{AreJoined}
use Rattle.cell_words.specs.declared.controls.Stage.TheVariants as stage
use Rattle.collector.specs.Stack.{Stack}
use Rattle.free_cells.specs.Hints.{cells_of as hinted_of}
use Rattle.free_cells.specs.Passes.{IsHintPass}
use Rattle.free_cells.specs.declared.queue.FreeQueue.{FreeQueue}
use Rattle.heap_rule.specs.Shape.{IsSound, Shape}
use Rattle.heap_rule.specs.declared.view.View.{View}
use Rattle.heap_table.specs.Seats.{HeapId, IsSeatOf, SeatView}
use Rattle.mutator_threads.specs.declared.opening.Opened.{Opened}
use Rattle.mutator_threads.specs.declared.running.OffDuty.{OffDuty}
use Rattle.mutator_threads.specs.declared.worker.Worker.{Worker}

module _ {P : Type 0} where
  -- the seat was just split off, with room for so many places and this pass
  pub record IsNew (heap : HeapId) (number room : ℕ) (pass : P) (seat : SeatView P) : Type 0 where
    pub seat_is : IsSeatOf heap seat
    pub number_is : seat.me.number ≡ number
    pub room_is : seat.me.room ≡ room
    pub out : seat.me.presence.inside ≡ false
    pub not_over : seat.me.presence.over ≡ false
    pub pass_is : seat.me.pass ≡ pass

  -- the mutator of the seat is over
  pub record IsOver (heap : HeapId) (number : ℕ) (seat : SeatView P) : Type 0 where
    pub seat_is : IsSeatOf heap seat
    pub number_is : seat.me.number ≡ number
    pub over : seat.me.presence.over ≡ true

  -- the collector's seat, from which all mutators were split off, has made no event
  pub record IsNewKeeper (heap : HeapId) (queue : FreeQueue) (keeper : Keeper P) : Type 0 where
    pub sound : IsSound heap.shape
    pub seat_is : IsSeatOf heap keeper.seat
    pub all : length keeper.seat.me.places ≡ heap.shape.mutators
    pub idle : keeper.seat.me.control.stage ≡ stage.Idle
    pub no_cycles : keeper.seat.me.control.cycles ≡ 0
    pub no_events : keeper.seat.me.trail ≡ []
    pub hints : IsHintPass queue keeper.pass
    pub cells : hinted_of queue ≡ heap.shape.cells

  -- The collector went on duty with this seat, for at most so many cycles, and is off duty now. It
  -- has served; or it got no thread, and what it is left with says that it is still to serve.
  pub record WentOffDuty (heap : HeapId) (queue : FreeQueue) (cycles : ℕ) (seat : SeatView P)
      (standby : Option Standby) (freed : ℕ) : Type 0 where
    pub sound : IsSound heap.shape
    pub on_duty : SeatView P
    pub seat_is : IsSeatOf heap on_duty
    pub trail : on_duty.me.trail ≡ duty_on cycles
    pub no_cycles : on_duty.me.control.cycles ≡ 0
    pub stands : Stands heap queue cycles on_duty seat standby
    pub all : length seat.me.places ≡ heap.shape.mutators
    pub off_duty : seat.me.control.duty ≡ false
    pub freed_are : freed_by seat.me.trail ≡ freed

  abbrev pub IsOffDuty : HeapId → FreeQueue → ℕ → OffDuty P → Type 0
  IsOffDuty heap queue cycles off = WentOffDuty heap queue cycles off.seat off.standby off.freed

  -- and since then the seats of all mutators were joined
  pub record HasJoined (heap : HeapId) (queue : FreeQueue) (cycles : ℕ) (off : OffDuty P)
      : Type 0 where
    pub before : SeatView P
    pub went : WentOffDuty heap queue cycles before off.standby off.freed
    pub still : IsStill before off.seat
    pub joined : AreJoined off.seat.me

-- how many cells may wait for a look of the collector, of which none does
abbrev pub opened_stack : Stack
opened_stack = record { room = 65_536; cells = [] }

module _ {P T : Type 0} where
  -- The worker has a new seat with its opening pass, a pass of the hints, and of its own what was
  -- made for its number.
  pub record IsWorker (opens : ℕ → ℕ → P) (heap : HeapId) (queue : FreeQueue) (room : ℕ)
      (Made : ℕ → T → Type 0) (number : ℕ) (worker : Worker P T) : Type 0 where
    pub new : IsNew heap number room (opens number heap.shape.setting) worker.seat
    pub hints : IsHintPass queue worker.pass
    pub own : Made number worker.own

  -- A heap of this shape was opened, under a rule with these opening passes.
  pub record IsOpened (opens : ℕ → ℕ → P) (shape : Shape) (room : ℕ) (Made : ℕ → T → Type 0)
      (made : Opened P T) : Type 0 where
    pub shape_is : made.heap.shape ≡ shape
    pub keeper : IsNewKeeper made.heap made.queue made.keeper
    pub workers : AllFrom (IsWorker opens made.heap made.queue room Made) 0 made.workers.items
    pub many : length made.workers.items ≡ shape.mutators
    pub stack : made.keeper.stack ≡ opened_stack

  -- the mutator of each worker is over
  abbrev pub AreOver : HeapId → List (Worker P T) → Type 0
  AreOver heap workers = AllFrom (λ number worker. IsOver heap number worker.seat) 0 workers

  -- what their seats know
  abbrev pub views_of : List (Worker P T) → List (View P)
  views_of workers = map (λ (worker : Worker P T). worker.seat.me) workers

  -- what they have of their own
  abbrev pub own_of : List (Worker P T) → List T
  own_of workers = map (λ (worker : Worker P T). worker.own) workers
