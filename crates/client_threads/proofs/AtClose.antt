-- What is known where the heap of a run is closed, and what follows from it for its logs.
--
-- agreed   the logs agree on the versions of the heap
-- tied     each log is tied to what its mutator left
use Rattle.std.proofs.Common.{◌≡◌, ◌≤◌, ◌<◌, ℕ}
use Rattle.std.proofs.Common.{List, length, ◌∙◌, ap, arith}
use Rattle.client_run.specs.Options.{IsWithin, limits_of, shape_of}
use Rattle.client_run.specs.declared.options.Options.{Options}
use Rattle.doc_model.specs.ClientLog.{ClientLog}
use Rattle.heap_rule.specs.declared.view.Place.{Place}
use Rattle.heap_rule.specs.declared.view.Place.TheVariants as places
use Rattle.heap_rule.specs.declared.view.View.{View}
use Rattle.client_history.specs.Agreed.{HasEnded, LogsAgree}
use Rattle.client_history.specs.Left.{AreLeft}
use Rattle.client_history.proofs.Agreeing.{logs_agree}
use Rattle.client_history.proofs.Indices.{at_once}
use Rattle.version_rule.specs.Pass.{Pass}
use Rattle.client_threads.specs.Clients.{places_for}
use Rattle.client_threads.specs.Ends.{IsTiedTo}
use Rattle.client_threads.specs.Taken.{AllHadRoom}

-- how many places a joined mutator had
abbrev pub room_in : Place Pass → ℕ
room_in places.Unsplit = 0
room_in places.Away = 0
room_in (places.Joined share) = share.room

-- What is known where the heap of a run is closed: of its mutators, each of which left a client's
-- log. The first of them had the places of clients.
pub record AtClose (o : Options) (clients mutators : ℕ) (logs : List ClientLog) (v : View Pass)
    : Type 0 where
  pub least : 1 ≤ mutators
  pub within : IsWithin o
  pub many : length logs ≡ mutators
  pub left : AreLeft (limits_of o) o.cells logs v.places mutators
  pub rooms : AllHadRoom (places_for o.minor) v.places clients

module _ (o : Options) (clients mutators : ℕ) (logs : List ClientLog) (words : List ℕ)
    (v : View Pass) (at : AtClose o clients mutators logs v)
    (ended : HasEnded (shape_of o mutators) words v) where
  pub agreed : LogsAgree (limits_of o) (shape_of o mutators) words v logs ended
  agreed = logs_agree (limits_of o) (shape_of o mutators) words v logs ended at.least at.many
      at.left

  pub tied : (i : ℕ) → i < clients → clients ≤ mutators
      → IsTiedTo (limits_of o) o.cells (places_for o.minor) logs v.places i
  tied i lt few =
      let one = at.left i (omega (arith, lt, few)) in
      let had = at.rooms i lt in
      let its = agreed.clients i one.log one.share one.log_at one.share_at in
      record {
        log = one.log;
        log_at = one.log_at;
        share = one.share;
        share_at = one.share_at;
        room_is = ap (λ (p : Place Pass). room_in p)
            (at_once v.places i (places.Joined one.share) (places.Joined had.share)
            one.share_at had.share_at) ∙ had.room_is;
        tied = its.tied;
        shows = its.shows;
      }
