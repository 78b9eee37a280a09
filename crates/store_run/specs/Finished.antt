-- What a run of clients comes to: what they were answered, and the heap that it leaves.
--
-- All is said of one heap that was opened for this run and closed after it: of the core state that
-- its words show at the close, and of the trails and passes that its seats left.
-- Source: this project's.
use Rattle.std.specs.Prelude.{ℕ, ◌≡◌, ◌≤◌, ◌<◌, ◌+◌, ◌-◌}
use Rattle.std.specs.Prelude.{true}
use Rattle.std.specs.Prelude.{List, ◌∷◌, length}
use Rattle.std.specs.List.{list_any}
use Rattle.client_run.specs.Options.{limits_of, shape_of}
use Rattle.client_run.specs.declared.options.Options.{Options}
use Rattle.client_threads.specs.Clients.{places_for}
use Rattle.client_threads.specs.Ends.{IsService, IsTiedTo}
use Rattle.client_history.specs.Runs.{was_full}
use Rattle.closed_store.specs.Kept.{HasCensus}
use Rattle.closed_store.specs.Chain.{ShowsVersions}
use Rattle.closed_store.specs.Closing.{EndedStore}
use Rattle.core_machine.specs.State.{State, free_count_of}
use Rattle.dlg_core.specs.Collects.{IsTidy}
use Rattle.dlg_core.specs.Sums.{claims_of, used_count_of}
use Rattle.doc_model.specs.Agreement.{ok_places}
use Rattle.doc_model.specs.ClientLog.{ClientLog}
use Rattle.doc_model.specs.Merge.{all_entries}
use Rattle.doc_model.specs.Store.{tree_at}
use Rattle.doc_model.specs.declared.command.Command.{Command}
use Rattle.doc_model.specs.declared.totals.Totals.{Totals}
use Rattle.doc_tree.specs.Tree.{DocTree, count}
use Rattle.heap_rule.specs.declared.view.View.{View}
use Rattle.heap_table.specs.Images.{ImageView, Shows}
use Rattle.version_rule.specs.Pass.{Pass}
use Rattle.store_run.specs.Answered.{Answered}

-- What the totals count: entries and new versions of the logs; of the state at the close claims,
-- frees, cells and cycles; and the nodes of the latest tree.
pub record IsTotals (s : State) (logs : List ClientLog) (trees : List DocTree) (t : Totals)
    : Type 0 where
  pub commands : t.commands ≡ length (all_entries logs)
  pub versions : t.versions ≡ length (ok_places (all_entries logs))
  pub claimed : t.claimed ≡ claims_of s
  pub freed : t.freed ≡ s.collector.number_freed
  pub used : t.used ≡ used_count_of s
  pub free : t.free ≡ free_count_of s
  pub cycles : t.cycles ≡ s.control.cycles
  pub nodes : t.nodes ≡ count (tree_at trees (length trees - 1))

-- The heap that a run of so many clients leaves, which have these logs.
pub record LeavesHeap (o : Options) (clients : ℕ) (logs : List ClientLog) (image : ImageView)
    (passes : View Pass) (totals : Totals) : Type 0 where
  -- the image is that of a store's heap, which opened with a mutator for each client
  pub ended : EndedStore (shape_of o clients) image.words passes
  pub shown : Shows image ended.shows.core
  -- each log is tied to what its own mutator left, which had the places that go with a private heap
  -- of so many records
  pub tied : (i : ℕ) → i < clients
      → IsTiedTo (limits_of o) o.cells (places_for o.minor) logs passes.places i
  -- the totals, and how they hang together
  pub totals_are : IsTotals ended.shows.core logs ended.shows.kept.trees totals
  pub balance : 3 + totals.claimed ≡ totals.used + totals.freed
  pub all_cells : totals.used + totals.free ≡ o.cells
  -- as many versions as are kept stand in the image, in one chain, and nothing else does
  pub stay : ShowsVersions ended.shows.core o.keep ended.shows.kept.trees
  pub made : length ended.shows.kept.trees ≡ totals.versions + 1
  pub claims : totals.versions ≤ totals.claimed
  -- a command finds the heap full only where every cell was claimed
  pub full : list_any was_full (all_entries logs) ≡ true → o.cells ≤ 3 + totals.claimed
  -- the collector served, in as many cycles as it may; and fewer leave no garbage
  pub service : IsService o.cycles clients totals.cycles passes.trail
  pub cycles : totals.cycles ≤ o.cycles
  pub tidy : totals.cycles < o.cycles → IsTidy ended.shows.core
  -- a census of the image is never refused: it counts the versions of that chain, and after fewer
  -- cycles nothing that floats
  pub census : HasCensus image (length (stay.latest ∷ stay.older)) (totals.cycles < o.cycles)

-- Both, by the limits of the options: the clients were answered on the versions of the heap that
-- is left.
pub record Comes (o : Options) (scripts : List (List Command)) (logs : List ClientLog)
    (image : ImageView) (passes : View Pass) (totals : Totals) : Type 0 where
  pub heap : LeavesHeap o (length scripts) logs image passes totals
  pub answered : Answered (limits_of o) scripts logs heap.ended.shows.kept.trees
