-- What stands between the parts of a run: after the opening, and at the close.
-- Source: this project's.
use Rattle.std.specs.Prelude.{ℕ, ◌≡◌, ◌≤◌, List, [], length, Vec, vec_capacity}
use Rattle.std.specs.declared.alloc.Global.{Global}
use Rattle.client_run.specs.Options.{client_limits}
use Rattle.client_run.specs.declared.options.Options.{Options}
use Rattle.client_threads.specs.Opened.{IsOpenStore}
use Rattle.closed_store.specs.Chain.{ShowsVersions}
use Rattle.core_machine.specs.InRange.{IsShaped}
use Rattle.core_machine.specs.State.{State}
use Rattle.dlg_core.specs.Sums.{IsBalanced}
use Rattle.doc_model.specs.declared.command.Command.{Command}
use Rattle.doc_tree.specs.Tree.{DocTree}
use Rattle.heap_table.specs.Images.{ImageView, Shows}
use Rattle.store_run.specs.declared.opened.Opened.{Opened}

-- The heap of a run is opened, with a mutator for each client, and its clients have not begun.
-- There is room for what they leave.
pub record IsOpened (o : Options) (scripts : List (Vec Command Global)) (made : Opened)
    : Type 0 where
  pub few : length scripts ≤ 64
  pub store : IsOpenStore o.cells (length scripts) (client_limits o) made.store
  pub no_clients : made.clients.items ≡ []
  pub room_for_clients : length scripts ≤ vec_capacity made.clients
  pub no_logs : made.logs.items ≡ []
  pub room_for_logs : length scripts ≤ vec_capacity made.logs

-- A state that the image shows, with the versions that stand there, and what was freed.
pub record IsCounted (image : ImageView) (freed : ℕ) : Type 0 where
  pub core : State
  pub shown : Shows image core
  pub shaped : IsShaped core
  pub balanced : IsBalanced 3 core
  pub freed_is : core.collector.number_freed ≡ freed
  pub keep : ℕ
  pub trees : List DocTree
  pub versions : ShowsVersions core keep trees
