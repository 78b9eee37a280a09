-- What clients leave after their last commands: their logs, and what their mutators' seats had. It
-- is said of the seat and not of its session, of which nothing outlives its thread.
-- Source: this project's.
use Rattle.std.specs.Prelude.{ℕ, ◌≡◌, ◌+◌, ◌<◌, List}
use mathlib.Core.Option.{some}
use lib.ListN.{get_elem?}
use Rattle.client_history.specs.State.{ClientState}
use Rattle.client_history.specs.Turns.{IsInStep}
use Rattle.doc_model.specs.Answers.{Limits}
use Rattle.doc_model.specs.ClientLog.{ClientLog}
use Rattle.heap_rule.specs.declared.view.Place.{Place}
use Rattle.heap_rule.specs.declared.view.Place.TheVariants as places
use Rattle.heap_rule.specs.declared.view.Share.{Share}
use Rattle.trails.specs.Marks.{marks_of}
use Rattle.version_rule.specs.Pass.{Pass}

-- Of a client with this number on a heap of so many cells: its log is in step with the pass, the
-- trail and the claims of its mutator.
pub record IsLeft (l : Limits) (cells client : ℕ) (log : ClientLog) (share : Share Pass)
    : Type 0 where
  -- what its session showed last, and its last place
  pub state : ClientState
  pub last : ℕ
  pub step : IsInStep l state last log
  pub client_is : log.client ≡ client
  pub cells_are : state.cells ≡ cells
  pub pass_is : state.pass ≡ share.pass
  pub marks_are : state.marks ≡ marks_of share.trail
  pub claims_are : state.claims ≡ share.own.claims

-- The log with this index is that of the client with the next number, and the mutator with this
-- index, which was joined, left what it left.
pub record IsClientLeft (l : Limits) (cells : ℕ) (logs : List ClientLog)
    (joined : List (Place Pass)) (i : ℕ) : Type 0 where
  pub log : ClientLog
  pub log_at : get_elem? logs i ≡ some log
  pub share : Share Pass
  pub share_at : get_elem? joined i ≡ some (places.Joined share)
  pub left : IsLeft l cells (i + 1) log share

-- so it is of the first clients, as many as this
abbrev pub AreLeft : Limits → ℕ → List ClientLog → List (Place Pass) → ℕ → Type 0
AreLeft l cells logs joined count = (i : ℕ) → i < count → IsClientLeft l cells logs joined i
