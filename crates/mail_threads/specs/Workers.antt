-- What a sender and the receiver have before they begin, and what they leave.
-- Source: this project's.
use Rattle.std.specs.Prelude.{ℕ, ◌≡◌, ◌≤◌, ◌<◌, ◌^◌, ◌++◌, Bool, false, All}
use Rattle.std.specs.Prelude.{List, [], ◌∷◌, Option, length, Vec, vec_capacity}
use Rattle.std.specs.declared.alloc.Global.{Global}
use Rattle.run_limits.specs.declared.TheConstants.{MOST_CLIENTS, MOST_COMMANDS}
use Rattle.beside_collector.specs.Places.{AllFrom}
use Rattle.beside_collector.specs.Scripts.{script_of}
use Rattle.free_cells.specs.declared.queue.FreeQueue.{FreeQueue}
use Rattle.heap_table.specs.Seats.{HeapId, SeatView}
use Rattle.mail_rule.specs.Passes.{opening_pass}
use Rattle.mail_rule.specs.declared.items.Item.{Item}
use Rattle.mail_rule.specs.declared.mail_pass.MailPass.{MailPass}
use Rattle.mutator_seat.specs.Bound.{Bound}
use Rattle.mutator_threads.specs.Mutators.{IsNew, IsOver, IsWorker}
use Rattle.mutator_threads.specs.declared.worker.Worker.{Worker}
use Rattle.trails.specs.Marks.{marks_of}
use Rattle.mail_threads.specs.Posts.{Posts}
use Rattle.mail_threads.specs.Receipts.{Empties, Receives}
use Rattle.mail_threads.specs.declared.workers.Received.{Received}

-- how many places a mutator has: the anchor's, and those of one call
abbrev pub places_held : ℕ
places_held = 16

-- each value of a line is below 2^32
abbrev pub AreSmall : List ℕ → Type 0
AreSmall script = All (λ (value : ℕ). value < 2 ^ 32) script

-- a mutator, with the answers to the lines of its script
abbrev pub Mailer : Type 0
Mailer = Worker MailPass (Vec (Option ℕ) Global)

-- The mutator with this number may send its script, of which nothing is answered yet. There is room
-- for the answers to its lines.
pub record MaySend (scripts : List (Vec ℕ Global)) (number : ℕ) (sent : Vec (Option ℕ) Global)
    : Type 0 where
  pub few : number < MOST_CLIENTS
  pub small : AreSmall (script_of scripts number)
  pub short : length (script_of scripts number) ≤ MOST_COMMANDS
  pub none : sent.items ≡ []
  pub room : length (script_of scripts number) ≤ vec_capacity sent

-- It has not begun.
abbrev pub IsReady : HeapId → FreeQueue → List (Vec ℕ Global) → ℕ → Mailer → Type 0
IsReady heap queue scripts number mailer =
    IsWorker opening_pass heap queue places_held (MaySend scripts) number mailer

-- The sender is done: its mutator is over, and has sent the lines that have a position.
pub record IsDone (heap : HeapId) (scripts : List (Vec ℕ Global)) (number : ℕ) (sender : Mailer)
    : Type 0 where
  pub is_over : IsOver heap number sender.seat
  pub posts : Posts heap.shape.cells (script_of scripts number) sender.own.items
      sender.seat.me.pass (marks_of sender.seat.me.trail)

abbrev pub AllReady : HeapId → FreeQueue → List (Vec ℕ Global) → List Mailer → Type 0
AllReady heap queue scripts mailers =
    AllFrom (λ number mailer. IsReady heap queue scripts number mailer) 0 mailers

abbrev pub AllDone : HeapId → List (Vec ℕ Global) → List Mailer → Type 0
AllDone heap scripts senders =
    AllFrom (λ number sender. IsDone heap scripts number sender) 0 senders

-- The receiver has not begun.
abbrev pub IsWaiting : HeapId → ℕ → SeatView MailPass → Type 0
IsWaiting heap number seat =
    IsNew heap number places_held (opening_pass number heap.shape.setting) seat

-- The receiver's mutator is out. Unless memory ran out, it took a turn for each line, and has what
-- it took.
pub record IsHalfway (heap : HeapId) (number lines : ℕ) (m : Bound MailPass) (items : List Item)
    (failed : Bool) : Type 0 where
  pub table : m.seat.table ≡ heap.table
  pub shape : m.seat.me.shape ≡ heap.shape
  pub number_is : m.seat.me.number ≡ number
  pub room : m.seat.me.room ≡ places_held
  pub out : m.seat.me.presence.inside ≡ false
  pub received : failed ≡ false → Receives lines items m.seat.me.pass (marks_of m.seat.me.trail)

-- The receiver is done: its mutator is over. Unless memory ran out, it took a turn for each line,
-- and more until one found nothing, and it has what it took.
pub record HasReceived (heap : HeapId) (number lines : ℕ) (seat : SeatView MailPass)
    (received : Received) : Type 0 where
  pub is_over : IsOver heap number seat
  pub taken : received.failed ≡ false → Receives lines received.items.items seat.me.pass
      (marks_of seat.me.trail)
  pub emptied : received.failed ≡ false → Empties lines (marks_of seat.me.trail)

-- All are done: the senders, of which each has a script, and after them the receiver.
pub record HaveWorked (heap : HeapId) (scripts : List (Vec ℕ Global)) (lines : ℕ)
    (mailers : List Mailer) (received : Received) : Type 0 where
  pub senders : List Mailer
  pub receiver : Mailer
  pub mailers_are : mailers ≡ senders ++ receiver ∷ []
  pub many : length senders ≡ length scripts
  pub done : AllDone heap scripts senders
  pub taken : HasReceived heap (length scripts) lines receiver.seat received
