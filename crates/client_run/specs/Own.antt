-- What a session needs of its own parts and of the mutator that is lent to it, and with what it is
-- made.
-- Source: this project's.
use Rattle.std.specs.Prelude.{ℕ, ◌≡◌, ◌≤◌, ◌+◌, ◌*◌, true, [], length}
use Rattle.run_limits.specs.declared.TheConstants.{MOST_CLIENTS}
use Rattle.client_heap.specs.Shows.{state_of}
use Rattle.client_heap.specs.Sound.{IsSound}
use Rattle.client_history.specs.declared.places.TheConstants.{PLACES_BESIDES, PLACES_PER_RECORD}
use Rattle.client_session.specs.declared.journal.Limits.{Limits}
use Rattle.client_run.specs.declared.session.Session.{Session}
use Rattle.client_session.specs.Turns.{InStep}
use Rattle.client_history.specs.State.{ClientState, IsReady}
use Rattle.mutator_seat.specs.Bound.{Bound}
use Rattle.version_rule.specs.Pass.{Pass}

-- what the session's client has, by this mutator
abbrev pub client_state : Session → Bound Pass → ClientState
client_state s m = state_of m s.nursery.heap s.draft s.base

-- The mutator is in, and is this session's: the log is in step with its pass and its trail. Its
-- held list has the draft's places and no more, and room after them.
pub record MayAnswer (s : Session) (m : Bound Pass) : Type 0 where
  pub client : (1 ≤ s.journal.log.client) × (s.journal.log.client ≤ MOST_CLIENTS)
  pub step : InStep s.journal (client_state s m)
  pub sound : IsSound m s.nursery.heap s.draft s.base
  pub ready : IsReady (client_state s m)
  pub settled : length m.seat.me.own.held ≡ s.base
  -- each private record can age
  pub whole : s.nursery.heap.room ≡ s.nursery.records
  -- and can be copied into the shared heap
  pub copied : s.nursery.heap.room ≤ s.promoter

-- The mutator came in, and holds the anchor alone: so many versions of its heap stay, it made none,
-- and it has the places that go with so many private records.
pub record IsBegun (keep minor : ℕ) (m : Bound Pass) : Type 0 where
  pub inside : m.seat.me.presence.inside ≡ true
  pub one : length m.seat.me.own.held ≡ 1
  pub keep_is : m.seat.me.pass.keep ≡ keep
  pub none_made : m.seat.me.pass.commits ≡ []
  pub room : PLACES_PER_RECORD * minor + PLACES_BESIDES ≤ m.seat.me.room

-- The session was made for this client, and answered nothing yet: its private heap is of as many
-- records as it is to have, and it may answer by every mutator that has just begun.
pub record IsNewSession (l : Limits) (client : ℕ) (s : Session) : Type 0 where
  pub entries : s.journal.log.entries ≡ []
  pub client_is : s.journal.log.client ≡ client
  pub keep : s.journal.limits.keep ≡ l.keep
  pub versions : s.journal.limits.versions ≡ l.versions
  pub minor : s.nursery.heap.room ≡ l.minor
  pub may : (m : Bound Pass) → IsBegun l.keep l.minor m → MayAnswer s m
