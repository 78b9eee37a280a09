-- The result of a run of clients during which a version was dumped: its logs, what the seats had at
-- the close, and the version.
--
-- All is said of one heap that was opened for this run and closed after it, with a mutator for each
-- client and the last one for the guest.
-- Source: this project's.
use Rattle.std.specs.Prelude.{ℕ, ◌≡◌, ◌≤◌, ◌<◌, ◌+◌, List, [], length, map, Option, Vec}
use Rattle.std.specs.declared.alloc.Global.{Global}
use mathlib.Core.Option.{some}
use lib.ListN.{get_elem?}
use Rattle.client_run.specs.Options.{limits_of, shape_of}
use Rattle.client_run.specs.declared.options.Options.{Options}
use Rattle.client_threads.specs.Clients.{places_for}
use Rattle.client_threads.specs.Ends.{IsService, IsTiedTo}
use Rattle.client_threads.specs.Taken.{commands_in}
use Rattle.dlg_core.specs.Collects.{IsTidy}
use Rattle.doc_model.specs.Agreement.{Agree, MergedIsLegal, rising}
use Rattle.doc_model.specs.ClientLog.{ClientLog}
use Rattle.doc_model.specs.Merge.{IsMerge}
use Rattle.doc_model.specs.Store.{tree_at}
use Rattle.doc_model.specs.declared.command.Command.{Command}
use Rattle.doc_model.specs.declared.command.Entry.{Entry}
use Rattle.doc_tree.specs.Tree.{count}
use Rattle.heap_rule.specs.declared.view.Place.{Place}
use Rattle.heap_rule.specs.declared.view.Place.TheVariants as places
use Rattle.heap_rule.specs.declared.view.Share.{Share}
use Rattle.heap_rule.specs.declared.view.View.{View}
use Rattle.client_history.specs.Agreed.{HasEnded}
use Rattle.trails.specs.Asks.{InOrder}
use Rattle.trails.specs.Marks.{marks_of}
use Rattle.version_rule.specs.Pass.{Pass}
use Rattle.version_store.specs.Calls.{version_asks}
use Rattle.doc_export.specs.Guests.{IsDumpOf}

-- The guest's mutator, with this index, took this version: it saw none that is newer. It read the
-- box of the version from the anchor's field, and then the version's number from the box; and it
-- made no version.
pub record IsTaken (joined : List (Place Pass)) (i version : ℕ) : Type 0 where
  pub share : Share Pass
  pub share_at : get_elem? joined i ≡ some (places.Joined share)
  pub latest : share.pass.seen ≡ version
  pub cell : ℕ
  pub read : InOrder (version_asks cell version) (marks_of share.trail)
  pub commits : share.pass.commits ≡ []

pub record Dumps (o : Options) (scripts : List (List Command)) (logs : List ClientLog)
    (passes : View Pass) (version nodes : ℕ) (bytes : Option (Vec ℕ Global)) : Type 0 where
  -- a log for each script, of clients 1, 2 and so on: it has the script's commands, in order
  pub clients : map (λ (g : ClientLog). g.client) logs ≡ rising 0 (length scripts)
  pub answered : map commands_in logs ≡ scripts
  -- the heap was a store's, which opened with a mutator for each client and one for the guest
  pub words : List ℕ
  pub ended : HasEnded (shape_of o (length scripts + 1)) words passes
  -- each log is tied to what its own mutator left, which had the places that belong to a private
  -- heap of so many records
  pub tied : (i : ℕ) → i < length scripts
      → IsTiedTo (limits_of o) o.cells (places_for o.minor) logs passes.places i
  -- the logs agree on the versions of that heap, and merged they are a legal history
  pub agree : Agree (limits_of o) ended.shows.kept.trees logs
  pub merged : (entries : List Entry) → IsMerge logs entries
      → MergedIsLegal (limits_of o) ended.shows.kept.trees logs entries
  -- the collector served, in at most as many cycles as it may make; and fewer leave no garbage
  pub service : IsService o.cycles (length scripts + 1) ended.shows.core.control.cycles passes.trail
  pub cycles : ended.shows.core.control.cycles ≤ o.cycles
  pub tidy : ended.shows.core.control.cycles < o.cycles → IsTidy ended.shows.core
  -- the guest took this version, which is one of the history; its tree has so many nodes, and these
  -- bytes are its dump, unless it has too many
  pub taken : IsTaken passes.places (length scripts) version
  pub there : version < length ended.shows.kept.trees
  pub counted : nodes ≡ count (tree_at ended.shows.kept.trees version)
  pub dumped : IsDumpOf version (tree_at ended.shows.kept.trees version) bytes
