-- What the logs of a run show at the close of its heap, which held versions of documents.
-- Source: this project's.
use Rattle.std.specs.Prelude.{ℕ, ◌≡◌, ◌≤◌, ◌+◌, true, List, [], length}
use mathlib.Core.Option.{some}
use lib.ListN.{get_elem?}
use Rattle.client_history.specs.Runs.{ShowsRun}
use Rattle.dlg_core.specs.Sums.{claims_of}
use Rattle.doc_model.specs.Agreement.{Agree, MergedIsLegal, ok_places}
use Rattle.doc_model.specs.Answers.{Limits, is_full}
use Rattle.doc_model.specs.ClientLog.{ClientLog}
use Rattle.doc_model.specs.Merge.{IsMerge, all_entries}
use Rattle.doc_model.specs.declared.command.Entry.{Entry}
use Rattle.client_history.specs.Closing.{EndedStore}
pub use Rattle.client_history.specs.Closing.{EndedStore as HasEnded}
use Rattle.heap_rule.specs.Shape.{Shape}
use Rattle.heap_rule.specs.declared.view.Place.{Place}
use Rattle.heap_rule.specs.declared.view.Place.TheVariants as places
use Rattle.heap_rule.specs.declared.view.Share.{Share}
use Rattle.heap_rule.specs.declared.view.View.{View}
use Rattle.trails.specs.Claims.{IsFull}
use Rattle.trails.specs.Marks.{marks_of}
use Rattle.trails.specs.Stretches.{Had}
use Rattle.version_rule.specs.Pass.{Pass}
use Rattle.version_rule.specs.Tied.{Tied}

-- some pass has cut the link of the oldest version that stays, or all of them stay
pub record IsCutFar (keep versions : ℕ) (passes : List Pass) : Type 0 where
  pub client : ℕ
  pub pass : Pass
  pub pass_at : get_elem? passes client ≡ some pass
  pub far : versions ≤ pass.cut + keep

-- Of one client: its log has what its mutator's pass made and read, and the mutator's trail shows
-- it. Where a reply says that the heap was full, a stretch of the trail shows that it was.
pub record ShowsLog (l : Limits) (cells : ℕ) (log : ClientLog) (share : Share Pass) : Type 0 where
  pub tied : Tied l share.pass log
  pub shows : ShowsRun cells log.entries (marks_of share.trail)
  pub full : (k : ℕ) (e : Entry) → get_elem? log.entries k ≡ some e
      → is_full e.reply ≡ true → Had (IsFull cells) [] (marks_of share.trail)

-- so it is of every client, with what its mutator left
abbrev pub EachShowsLog : Limits → ℕ → List ClientLog → List (Place Pass) → Type 0
EachShowsLog l cells logs joined = (i : ℕ) (log : ClientLog) (share : Share Pass)
    → get_elem? logs i ≡ some log → get_elem? joined i ≡ some (places.Joined share)
    → ShowsLog l cells log share

-- By the limits, the heap's shape, its words and the collector's view at the close: the logs agree
-- on the versions that the heap had, and all of them together are a history of one store.
pub record LogsAgree (l : Limits) (h : Shape) (words : List ℕ) (v : View Pass)
    (logs : List ClientLog) (ended : EndedStore h words v) : Type 0 where
  pub agree : Agree l ended.shows.kept.trees logs
  pub legal : (merged : List Entry) → IsMerge logs merged
      → MergedIsLegal l ended.shows.kept.trees logs merged
  -- as many versions stay in the heap as the store's limits say
  pub keep : ended.shows.kept.keep ≡ l.keep
  -- the empty tree, and one version for each entry that made one
  pub made : length ended.shows.kept.trees ≡ length (ok_places (all_entries logs)) + 1
  -- each of these took a cell of the heap
  pub claimed : length (ok_places (all_entries logs)) ≤ claims_of ended.shows.core
  pub cut : IsCutFar ended.shows.kept.keep (length ended.shows.kept.trees) ended.shows.passes
  pub clients : EachShowsLog l h.cells logs v.places
