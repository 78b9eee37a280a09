-- What holds of each client's log at the close of a heap.
-- Source: this project's.
use Rattle.std.specs.Prelude.{ℕ, ◌≡◌, List}
use mathlib.Core.Option.{some}
use lib.ListN.{get_elem?}
pub use Rattle.beside_collector.specs.Service.{IsService}
use Rattle.client_history.specs.Runs.{ShowsRun}
use Rattle.doc_model.specs.Answers.{Limits}
use Rattle.doc_model.specs.ClientLog.{ClientLog}
use Rattle.heap_rule.specs.declared.view.Place.{Place}
use Rattle.heap_rule.specs.declared.view.Place.TheVariants as places
use Rattle.heap_rule.specs.declared.view.Share.{Share}
use Rattle.trails.specs.Marks.{marks_of}
use Rattle.version_rule.specs.Pass.{Pass}
use Rattle.version_rule.specs.Tied.{Tied}

-- The log with this index and what the mutator with this index left: its seat was joined, the log
-- is tied to its pass, and its trail shows what the log tells. The heap has so many cells, and the
-- mutator so many places.
pub record IsTiedTo (l : Limits) (cells room : ℕ) (logs : List ClientLog)
    (joined : List (Place Pass)) (i : ℕ) : Type 0 where
  pub log : ClientLog
  pub log_at : get_elem? logs i ≡ some log
  pub share : Share Pass
  pub share_at : get_elem? joined i ≡ some (places.Joined share)
  pub room_is : share.room ≡ room
  pub tied : Tied l share.pass log
  pub shows : ShowsRun cells log.entries (marks_of share.trail)
