-- How a command ends, where nothing was made before it or after it.
use Rattle.std.proofs.Common.{◌≡◌, ◌≤◌, ap, subst, arith, length, Option, Some, None, Result, Ok}
use Rattle.std.proofs.Common.{Err}
use Rattle.cell_words.specs.Term.{Term}
use Rattle.client_session.specs.Handles.{GivesBack}
use Rattle.client_session.specs.Turns.{Answered, Ends, MayTurn, account_of, bounds}
use Rattle.client_session.specs.declared.given.Given.{Given}
use Rattle.client_session.specs.declared.journal.Journal.{Journal}
use Rattle.client_session.proofs.Rooms.{may_on}
use Rattle.client_history.specs.Progress.{MakesNone}
use Rattle.client_history.specs.State.{ClientState, IsReady, OnlyReads}
use Rattle.client_history.specs.Turns.{Lost, Turned}
use Rattle.client_history.proofs.States.{lost_none, lost_then, none_lost}
use Rattle.client_history.proofs.Turning.{lost_turned, turned_on}
use Rattle.doc_model.specs.declared.answer.Account.{Account}
use Rattle.doc_model.specs.declared.command.Command.{Command}
use Rattle.doc_records.specs.Trees.{tree_of}

pub may_lost : {j : Journal} {s t : ClientState} → MayTurn j s → Lost s t → MayTurn j t
may_lost may lost = may_on may (lost_none lost)

same_account : (j : Journal) {s t : ClientState} → Lost s t → account_of j t ≡ account_of j s
same_account j lost =
    ap (λ (d : Term).
    record { draft = tree_of d; last = j.last; answered = length j.log.entries }) lost.draft

-- however a command ends there is room for every reading, and so there is where room was given back
pub ends_ready : (j : Journal) (c : Command) (s t : ClientState) {E : Type 0}
    (r : Result (Option Given) E) → Ends j c s t r → IsReady t
ends_ready j c s t (Ok (Some g)) ended = ended.turned.ready
ends_ready j c s t (Ok None) ended = ended.lost.ready
ends_ready j c s t (Err e) ended = ended.ready

-- What is given back takes nothing.

gives_none : {s t : ClientState} → GivesBack s t → MakesNone s t
gives_none gives = record {
  lasts = gives.lasts;
  commits = gives.commits;
  draft = gives.draft;
  small = let is = gives.base in omega (arith, is);
}

pub gives_ready : {s t : ClientState} → 9_100 ≤ t.room → GivesBack s t → Lost s t
gives_ready room gives = none_lost (omega (arith, room)) (gives_none gives)

pub gives_on : {s t : ClientState} → IsReady s → GivesBack s t → Lost s t
gives_on ready gives =
    none_lost (let room = gives.room in omega (arith, ready, room)) (gives_none gives)

pub gives_reads : {s t : ClientState} → GivesBack s t → OnlyReads s t
gives_reads gives = record { claims = gives.claims; base = gives.base; spare = gives.spare }

module _ (j : Journal) (c : Command) (s t u : ClientState) where
  pub answered_late : (g : Given) → Lost s t → Answered j c t u g → Answered j c s u g
  answered_late g lost ended = record {
    turned = subst
        (λ (m : Account). Turned (bounds j.limits) j.log.client m c s u g.reply g.place)
        (same_account j lost)
        (lost_turned (bounds j.limits) j.log.client (account_of j t) c lost ended.turned);
    kept = ended.kept;
  }

  pub answered_on : (g : Given) → Answered j c s t g → Lost t u → Answered j c s u g
  answered_on g ended lost = record {
    turned = turned_on (bounds j.limits) j.log.client (account_of j s) c ended.turned lost;
    kept = ended.kept;
  }

  -- nothing was made before
  pub ends_late : {E : Type 0} (r : Result (Option Given) E) → Lost s t → Ends j c t u r
      → Ends j c s u r
  ends_late (Ok (Some g)) lost ended = answered_late g lost ended
  ends_late (Ok None) lost ended = record {
    lost = lost_then lost ended.lost;
    newer = let x = lost.lasts.passes.seen in let y = ended.newer in omega (arith, x, y);
  }
  ends_late (Err e) lost ended = lost_then lost ended

  -- nor after
  pub ends_on : {E : Type 0} (r : Result (Option Given) E) → Ends j c s t r → Lost t u
      → Ends j c s u r
  ends_on (Ok (Some g)) ended lost = answered_on g ended lost
  ends_on (Ok None) ended lost = record {
    lost = lost_then ended.lost lost;
    newer = let x = lost.lasts.passes.seen in let y = ended.newer in omega (arith, x, y);
  }
  ends_on (Err e) ended lost = lost_then ended lost
