-- Room for an edit, and then the latest version; or a full heap.
use Rattle.std.proofs.Common.{◌≡◌, ℕ, ◌≤◌, ◌∙◌, ap, arith, Some, refl, length}
use Rattle.client_session.specs.Handles.{Handles}
use Rattle.client_session.specs.Turns.{Answered, Begins, FindsFull, MayTurn, Opens, account_of}
use Rattle.client_session.specs.Turns.{bounds}
use Rattle.client_session.specs.declared.given.Opened.{Opened}
use Rattle.client_session.specs.declared.journal.Journal.{Journal}
use Rattle.client_session.proofs.Readings.{account_is}
use Rattle.version_rule.specs.Shows.{version_asks}
use Rattle.client_history.specs.Progress.{MakesNone}
use Rattle.client_history.specs.State.{ClientState, Lasts, Rests, StaysSmall}
use Rattle.client_history.proofs.Reading.{read_current, read_late}
use Rattle.client_history.proofs.States.{rests_none}
use Rattle.client_history.proofs.Turning.{full_turned}
use Rattle.doc_model.specs.Answers.{full_place}
use Rattle.doc_model.specs.declared.command.Command.{Command}
use Rattle.doc_model.specs.declared.command.Reply.TheVariants as reply
use Rattle.trails.specs.Asks.{Shows}
use Rattle.trails.specs.Claims.{IsFull}
use Rattle.trails.specs.Stretches.{Had}
use Rattle.trails.proofs.Stretches.{had_on}
use Rattle.version_rule.specs.Pass.{commit_numbers, seeing}

-- a call that leaves the pass as it is makes nothing, where it also leaves the draft
pub same_none : {s t : ClientState} → t.pass ≡ s.pass → t.draft ≡ s.draft → StaysSmall s t
    → Lasts s t
    → MakesNone s t
same_none pass draft small lasts =
    record { lasts = lasts; commits = ap commit_numbers pass; draft = draft; small = small }

pub may_on : {j : Journal} {s t : ClientState} → MayTurn j s → MakesNone s t → MayTurn j t
may_on may none = record {
  keep = none.lasts.passes.keep ∙ may.keep;
  last = let x = may.last in let y = none.lasts.passes.seen in omega (arith, x, y);
  few = let x = may.few in let e = ap length none.commits in omega (arith, x, e);
}

pub begins_of : {At : Type 0} {s t u : ClientState} {h : Handles At} {o : Opened At}
    → MakesNone s t → Opens t u h o → 20_480 ≤ t.room → 2_285 ≤ t.spare
    → Begins s u h o
begins_of none opens room spare = record {
  read = read_late none opens.read;
  holds = opens.holds;
  room = let x = opens.rests.room in omega (arith, x, room);
  spare = let x = opens.rests.spare in omega (arith, x, spare);
}

pub full_of : (s t u : ClientState) (v cell : ℕ) → MakesNone s t
    → Had (IsFull s.cells) s.marks t.marks → 9_100 ≤ s.room → s.room ≤ t.room
    → Shows (version_asks cell v) t.marks u.marks → u.pass ≡ seeing v t.pass
    → t.pass.seen ≤ v
    → Rests 1 t u → FindsFull s u v
full_of s t u v cell none full enough room shows pass low rests = record {
  read = read_late none (read_current v cell shows pass low (rests_none rests));
  full = had_on (IsFull s.cells) full rests.lasts.grown;
  ready = let x = rests.room in omega (arith, x, room, enough);
}

-- the answer of a full heap
pub full_ends : (j : Journal) (c : Command) {s t : ClientState} (v : ℕ) → MayTurn j s
    → full_place v (account_of j s) c ≡ Some v → FindsFull s t v
    → Answered j c s t (record { reply = reply.Full v; kept = reply.Full v; place = v })
full_ends j c {s = s} v may needs found = record {
  turned = full_turned (bounds j.limits) j.log.client (account_of j s) c v needs
      (account_is j s may.last) found.read found.ready found.full;
  kept = refl;
}
