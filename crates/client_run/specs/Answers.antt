-- What `Session::answer` leaves of a session and of the mutator that was lent to it: in each case,
-- with an answer, without one, and after a command that only reads. The session and the mutator
-- before the call come first, and then the two after it.
-- Source: this project's.
use Rattle.std.specs.Prelude.{◌≡◌, ◌≤◌, ◌-◌, true, false, length, max}
use Rattle.client_run.specs.Own.{client_state}
use Rattle.client_run.specs.declared.session.Session.{Session}
use Rattle.client_session.specs.Turns.{Enters, IsPlain}
use Rattle.client_history.specs.Demands.{is_reading}
use Rattle.client_history.specs.Turns.{Lost}
use Rattle.doc_model.specs.declared.command.Command.{Command}
use Rattle.doc_model.specs.declared.command.Reply.{Reply}
use Rattle.mutator_seat.specs.Bound.{Bound}
use Rattle.version_rule.specs.Pass.{Pass}
use Rattle.version_store.specs.Lasts.{IsSameMutator}

-- It is the same client on the same mutator, with its number and its limits, and with room for as
-- many private records and for as many copies of them.
pub record IsSameClient (s : Session) (m : Bound Pass) (t : Session) (n : Bound Pass)
    : Type 0 where
  pub mutator : IsSameMutator m n
  pub limits : t.journal.limits ≡ s.journal.limits
  pub client : t.journal.log.client ≡ s.journal.log.client
  pub minor_room : t.nursery.heap.room ≡ s.nursery.heap.room
  pub promoter : t.promoter ≡ s.promoter

-- The command was answered with this reply, and the log has its entry. A reply to a command that
-- only reads makes no version and tells of no full heap.
pub record Answered (c : Command) (s : Session) (m : Bound Pass) (t : Session) (n : Bound Pass)
    (reply : Reply) : Type 0 where
  pub enters : Enters s.journal t.journal c reply (client_state s m) (client_state t n)
  pub plain : is_reading c ≡ true → IsPlain reply

-- mutator, private heap and draft are as they were
pub record IsUntouched (s : Session) (m : Bound Pass) (t : Session) (n : Bound Pass)
    : Type 0 where
  pub mutator : n ≡ m
  pub nursery : t.nursery ≡ s.nursery
  pub draft : t.draft ≡ s.draft
  pub base : t.base ≡ s.base

-- Memory ran out: no version and no draft was made, and the log is as it was. A command that
-- does more than read has not even begun.
pub record Unanswered (c : Command) (s : Session) (m : Bound Pass) (t : Session) (n : Bound Pass)
    : Type 0 where
  pub last : t.journal.last ≡ s.journal.last
  pub entries : t.journal.log.entries ≡ s.journal.log.entries
  pub lost : Lost (client_state s m) (client_state t n)
  pub untouched : is_reading c ≡ false → IsUntouched s m t n

-- Nothing was collected: no cell was claimed, as many places are held, and there is room for no
-- fewer private records. There may be room for more, since a turn gives back what is not the
-- draft's.
pub record CollectsNone (s : Session) (m : Bound Pass) (t : Session) (n : Bound Pass)
    : Type 0 where
  pub claims : n.seat.me.own.claims ≡ m.seat.me.own.claims
  pub held : length n.seat.me.own.held ≡ length m.seat.me.own.held
  pub spare : s.nursery.heap.room - length s.nursery.heap.records
      ≤ t.nursery.heap.room - length t.nursery.heap.records

-- the held list has at most as many places as before, or at most the anchor's and one
abbrev pub HoldsNoMore : Bound Pass → Bound Pass → Type 0
HoldsNoMore m n = length n.seat.me.own.held ≤ max (length m.seat.me.own.held) 2
