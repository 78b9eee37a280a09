-- The clients and the guest of a run: before they begin, and when all are done.
-- Source: this project's.
use Rattle.std.specs.Prelude.{◌≡◌, ◌++◌, List, [], ◌∷◌, length, Option, Vec}
use Rattle.std.specs.declared.alloc.Global.{Global}
use Rattle.beside_collector.specs.Places.{AllFrom}
use Rattle.client_session.specs.declared.journal.Limits.{Limits}
use Rattle.client_threads.specs.Clients.{AllDone, IsReady}
use Rattle.client_threads.specs.declared.clients.Client.{Client}
use Rattle.doc_model.specs.declared.command.Command.{Command}
use Rattle.free_cells.specs.declared.queue.FreeQueue.{FreeQueue}
use Rattle.heap_table.specs.Seats.{HeapId}
use Rattle.mutator_threads.specs.declared.worker.Worker.{Worker}
use Rattle.version_rule.specs.Pass.{Pass}
use Rattle.doc_export.specs.Guests.{IsThrough}
use Rattle.doc_export.specs.declared.guest.Copied.{Copied}

-- none of these workers has begun
abbrev pub AllReady : HeapId → FreeQueue → Limits → List (Worker Pass Client) → Type 0
AllReady heap queue l workers =
    AllFrom (λ number worker. IsReady heap queue l number worker) 0 workers

-- All are done: the clients, of which each has a script, and the guest, which has the last mutator
-- and took this version.
pub record HaveWorked (heap : HeapId) (l : Limits) (scripts : List (Vec Command Global))
    (workers : List (Worker Pass Client)) (copied : Option Copied) : Type 0 where
  pub clients : List (Worker Pass Client)
  pub guest : Worker Pass Client
  pub workers_are : workers ≡ clients ++ guest ∷ []
  pub many : length clients ≡ length scripts
  pub done : AllDone heap l scripts clients
  pub through : IsThrough heap l (length scripts) record { seat = guest.seat; copied = copied }
