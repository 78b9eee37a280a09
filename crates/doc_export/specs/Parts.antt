-- What holds between the parts of a run: after the opening, and where the heap is closed.
-- Source: this project's.
use Rattle.std.specs.Prelude.{◌≡◌, ◌≤◌, ◌+◌, List, [], length, Option, Some, None}
use Rattle.std.specs.Prelude.{Vec, vec_capacity}
use Rattle.std.specs.declared.alloc.Global.{Global}
use Rattle.client_run.specs.Options.{client_limits}
use Rattle.client_run.specs.declared.options.Options.{Options}
use Rattle.client_threads.specs.Opened.{IsOpenStore}
use Rattle.doc_model.specs.ClientLog.{ClientLog}
use Rattle.doc_model.specs.declared.command.Command.{Command}
use Rattle.heap_rule.specs.declared.view.View.{View}
use Rattle.version_rule.specs.Pass.{Pass}
use Rattle.doc_export.specs.Dumps.{Dumps}
use Rattle.doc_export.specs.declared.guest.Copied.{Copied}
use Rattle.doc_export.specs.declared.opened.Opened.{Opened}

-- The heap of a run is opened: neither its clients nor its guest, which has the last mutator, have
-- begun. There is room for what they leave.
pub record IsOpened (o : Options) (scripts : List (Vec Command Global)) (made : Opened)
    : Type 0 where
  pub few : length scripts ≤ 63
  pub store : IsOpenStore o.cells (length scripts + 1) (client_limits o) made.store
  pub no_clients : made.clients.items ≡ []
  pub room_for_clients : length scripts + 1 ≤ vec_capacity made.clients

-- the result of the run, if the guest has a version
abbrev pub MayDump : Options → List (List Command) → List ClientLog → View Pass
    → Option Copied → Type 0
MayDump o scripts logs passes None = Unit {0}
MayDump o scripts logs passes (Some c) = Dumps o scripts logs passes c.version c.count c.bytes
