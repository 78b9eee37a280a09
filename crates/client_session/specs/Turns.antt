-- Turns of a session: what a command needs, and how it ends.
-- Source: this project's.
use Rattle.std.specs.Prelude.{ℕ, ◌≡◌, ◌≤◌, ◌<◌, ◌++◌, [], ◌∷◌, Option}
use Rattle.std.specs.Prelude.{Some, None, IfSome, Result, Ok, Err, IfOk, false, length}
use Rattle.run_limits.specs.declared.TheConstants.{MOST_COMMANDS}
use Rattle.client_history.specs.declared.places.TheConstants.{BEGUN_ROOM, EDIT_SPARE}
use Rattle.client_session.specs.Handles.{Handles}
use Rattle.client_session.specs.declared.given.Given.{Given}
use Rattle.client_session.specs.declared.given.Opened.{Opened}
use Rattle.client_session.specs.declared.journal.Journal.{Journal}
use Rattle.client_session.specs.declared.journal.Limits.{Limits as StoreLimits}
use Rattle.client_history.specs.Progress.{HasRead, KnowsTree}
use Rattle.client_history.specs.State.{ClientState, IsReady, Rests}
use Rattle.client_history.specs.Turns.{IsInStep, Lost, Turned, account_in, entry_for}
use Rattle.doc_model.specs.Answers.{Limits, is_full, is_ok}
use Rattle.doc_model.specs.declared.answer.Account.{Account}
use Rattle.doc_model.specs.declared.command.Command.{Command}
use Rattle.doc_model.specs.declared.command.Reply.{Reply}
use Rattle.trails.specs.Claims.{IsFull}
use Rattle.trails.specs.Stretches.{Had}
use Rattle.version_rule.specs.Pass.{commit_numbers}

abbrev pub bounds : StoreLimits → Limits
bounds l = record { keep = l.keep; versions = l.versions }

-- what a client in this state has, by its journal
abbrev pub account_of : Journal → ClientState → Account
account_of j s = account_in s j.last (length j.log.entries)

-- the journal is in step with its client's pass and trail
abbrev pub InStep : Journal → ClientState → Type 0
InStep j s = IsInStep (bounds j.limits) s j.last j.log

-- what every turn needs of the state that it meets
pub record MayTurn (j : Journal) (s : ClientState) : Type 0 where
  pub keep : s.pass.keep ≡ j.limits.keep
  pub last : j.last ≤ s.pass.seen
  pub few : length (commit_numbers s.pass) < MOST_COMMANDS

-- a command was answered with this
pub record Answered (j : Journal) (c : Command) (s t : ClientState) (g : Given) : Type 0 where
  pub turned : Turned (bounds j.limits) j.log.client (account_of j s) c s t g.reply g.place
  pub kept : g.kept ≡ g.reply

-- another client was faster: a newer version was seen, and all else is as before
pub record Outrun (s t : ClientState) : Type 0 where
  pub lost : Lost s t
  pub newer : s.pass.seen < t.pass.seen

-- how a command ends: with an answer, without one, or out of memory
abbrev pub Ends : {E : Type 0} → Journal → Command → ClientState → ClientState
    → Result (Option Given) E
    → Type 0
Ends j c s t (Ok (Some g)) = Answered j c s t g
Ends j c s t (Ok None) = Outrun s t
Ends j c s t (Err e) = Lost s t

-- the latest version is held, with its root
pub record HoldsOpen {At : Type 0} (s : ClientState) (h : Handles At) (o : Opened At)
    : Type 0 where
  pub version : h.is_version o.version
  pub node : h.is_node o.root
  pub same : h.root o.version ≡ h.tree o.root
  pub knows : KnowsTree s.pass o.version.number (h.tree o.root)

-- the latest version and its root were read
pub record Opens {At : Type 0} (old new : ClientState) (h : Handles At) (o : Opened At)
    : Type 0 where
  pub read : HasRead o.version.number [] old new
  pub holds : HoldsOpen new h o
  pub rests : Rests 2 old new

-- Room was made for an edit, and then they were read.
pub record Begins {At : Type 0} (old new : ClientState) (h : Handles At) (o : Opened At)
    : Type 0 where
  pub read : HasRead o.version.number [] old new
  pub holds : HoldsOpen new h o
  pub room : BEGUN_ROOM ≤ new.room
  pub spare : EDIT_SPARE ≤ new.spare

-- No room could be made, and then the latest version was read.
pub record FindsFull (old new : ClientState) (shown : ℕ) : Type 0 where
  pub read : HasRead shown [] old new
  pub full : Had (IsFull old.cells) old.marks new.marks
  pub ready : IsReady new

-- The command was answered with this reply, and the journal has its entry.
pub record Enters (old new : Journal) (c : Command) (reply : Reply) (s t : ClientState)
    : Type 0 where
  pub place : ℕ
  pub turned : Turned (bounds old.limits) old.log.client (account_of old s) c s t reply place
  pub entries : new.log.entries
      ≡ old.log.entries ++ entry_for old.log.client (account_of old s) c reply place ∷ []
  pub last : new.last ≡ place

-- the reply makes no version and tells of no full heap
pub record IsPlain (r : Reply) : Type 0 where
  pub plain : is_ok r ≡ false
  pub spare : is_full r ≡ false

-- no answer, or such a one
abbrev pub EndsPlain : {E : Type 0} → Result (Option Given) E → Type 0
EndsPlain result = IfOk result (λ ended. IfSome ended (λ given. IsPlain given.reply))
