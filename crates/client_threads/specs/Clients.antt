-- What a client has before its run, and what it leaves.
-- Source: this project's.
use Rattle.std.specs.Prelude.{ℕ, ◌≡◌, ◌+◌, ◌*◌, false, List, [], length, map, take}
use Rattle.std.specs.Prelude.{Vec}
use Rattle.std.specs.declared.alloc.Global.{Global}
use Rattle.beside_collector.specs.Places.{AllFrom}
use Rattle.beside_collector.specs.Scripts.{script_of}
use Rattle.client_history.specs.declared.places.TheConstants.{PLACES_BESIDES, PLACES_PER_RECORD}
use Rattle.client_run.specs.Own.{IsBegun, MayAnswer}
use Rattle.client_session.specs.declared.journal.Limits.{Limits}
use Rattle.client_run.specs.declared.session.Session.{Session}
use Rattle.client_threads.specs.declared.clients.Client.{Client}
use Rattle.doc_model.specs.Answers.{Limits as StoreLimits}
use Rattle.doc_model.specs.declared.command.Command.{Command}
use Rattle.doc_model.specs.declared.command.Entry.{Entry}
use Rattle.free_cells.specs.declared.queue.FreeQueue.{FreeQueue}
use Rattle.heap_rule.specs.Rule.{share_of}
use Rattle.heap_table.specs.Seats.{HeapId}
use Rattle.mutator_seat.specs.Bound.{Bound}
use Rattle.mutator_threads.specs.Mutators.{IsOver, IsWorker}
use Rattle.mutator_threads.specs.declared.worker.Worker.{Worker}
use Rattle.client_history.specs.Left.{IsLeft}
use Rattle.version_rule.specs.Pass.{Pass, opening_pass}

-- the limits of the store, by those of a client
abbrev pub store_limits : Limits → StoreLimits
store_limits l = record { keep = l.keep; versions = l.versions }

-- the places of a client's mutator: some for each private record that there is room for, and others
-- besides
abbrev pub places_for : ℕ → ℕ
places_for minor = PLACES_PER_RECORD * minor + PLACES_BESIDES

-- the commands that were answered
abbrev pub commands_of : List Entry → List Command
commands_of entries = map (λ (e : Entry). e.command) entries

-- The session is as it was made for this client, and has answered nothing yet: its private heap has
-- room for as many records as it is to have, and it may answer by every mutator of so much room
-- that has just begun.
pub record IsSessionFor (l : Limits) (client room : ℕ) (s : Session) : Type 0 where
  pub entries : s.journal.log.entries ≡ []
  pub client_is : s.journal.log.client ≡ client
  pub keep : s.journal.limits.keep ≡ l.keep
  pub versions : s.journal.limits.versions ≡ l.versions
  pub minor : s.nursery.heap.room ≡ l.minor
  pub may : (m : Bound Pass) → IsBegun l.keep l.minor m → m.seat.me.room ≡ room
      → MayAnswer s m

-- The client of the mutator with this number has not begun. Its own number is one more.
pub record IsNewClient (l : Limits) (number : ℕ) (client : Client) : Type 0 where
  pub session : IsSessionFor l (number + 1) (places_for l.minor) client.session
  pub not_failed : client.failed ≡ false

abbrev pub IsReady : HeapId → FreeQueue → Limits → ℕ → Worker Pass Client → Type 0
IsReady heap queue l number client =
    IsWorker opening_pass heap queue (places_for l.minor) (IsNewClient l) number client

-- The client is done: its mutator is over, and its log is in step with what the seat has; its
-- private heap and its mutator have the room that they were to have. Where memory ran out it
-- stopped early, and its log is of the script's first commands.
pub record IsDone (heap : HeapId) (l : Limits) (scripts : List (Vec Command Global)) (number : ℕ)
    (client : Worker Pass Client) : Type 0 where
  pub is_over : IsOver heap number client.seat
  pub minor : client.own.session.nursery.heap.room ≡ l.minor
  pub room : client.seat.me.room ≡ places_for l.minor
  pub left : IsLeft (store_limits l) heap.shape.cells (number + 1)
      client.own.session.journal.log (share_of client.seat.me)
  pub front : commands_of client.own.session.journal.log.entries
      ≡ take (length client.own.session.journal.log.entries) (script_of scripts number)
  pub whole : client.own.failed ≡ false
      → commands_of client.own.session.journal.log.entries ≡ script_of scripts number

abbrev pub AllDone : HeapId → Limits → List (Vec Command Global) → List (Worker Pass Client)
    → Type 0
AllDone heap l scripts clients =
    AllFrom (λ number client. IsDone heap l scripts number client) 0 clients
