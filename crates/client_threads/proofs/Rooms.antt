-- A session asks of its mutator's room only a lower bound.
--
-- The mutator with less room is the same one except for that. So all that names no room is handed
-- over as it is, and the bounds grow.
use Rattle.std.proofs.Common.{◌≤◌, ◌+◌, ℕ, refl, arith}
use Rattle.client_heap.specs.Sound.{IsSound}
use Rattle.client_run.specs.Own.{IsBegun, IsNewSession, MayAnswer, client_state}
use Rattle.client_session.specs.declared.journal.Limits.{Limits}
use Rattle.client_run.specs.declared.session.Session.{Session}
use Rattle.client_session.specs.Turns.{InStep}
use Rattle.client_history.specs.State.{IsReady as HasPlaces}
use Rattle.free_cells.specs.declared.queue.FreeQueue.{FreeQueue}
use Rattle.heap_table.specs.Seats.{HeapId}
use Rattle.mutator_seat.specs.Bound.{Bound}
use Rattle.mutator_threads.specs.declared.worker.Worker.{Worker}
use Rattle.version_rule.specs.Pass.{Pass}
use Rattle.client_threads.specs.Clients.{IsReady, IsSessionFor, places_for}
use Rattle.client_threads.specs.declared.clients.Client.{Client}

-- the mutator with this room
abbrev with_room : ℕ → Bound Pass → Bound Pass
with_room room m = record m {
  seat = record m.seat { me = record m.seat.me { room = room } };
}

module _ (s : Session) (m : Bound Pass) (room : ℕ) (more : room ≤ m.seat.me.room)
    (may : MayAnswer s (with_room room m)) where
  step : InStep s.journal (client_state s m)
  step = record {
    keep = may.step.keep;
    own = may.step.own;
    commits = may.step.commits;
    seen = may.step.seen;
    keeps_up = may.step.keeps_up;
    turns = may.step.turns;
    claims = may.step.claims;
    trimmed = may.step.trimmed;
  }

  sound : IsSound m s.nursery.heap s.draft s.base
  sound =
      let places = may.sound.places in
      let ready = may.sound.ready in
      record {
        inside = may.sound.inside;
        some = may.sound.some;
        kept = may.sound.kept;
        stands = may.sound.stands;
        node = may.sound.node;
        records = may.sound.records;
        places = omega (arith, more, places);
        ready = omega (arith, more, ready);
      }

  has_places : HasPlaces (client_state s m)
  has_places = let enough = may.ready in omega (arith, enough, more)

  may_with_more : MayAnswer s m
  may_with_more = record {
    client = may.client;
    step = step;
    sound = sound;
    ready = has_places;
    settled = may.settled;
    whole = may.whole;
    copied = may.copied;
  }

-- a mutator that has begun has begun with the least room, too
begun_least : (keep minor : ℕ) (m : Bound Pass) → IsBegun keep minor m
    → IsBegun keep minor (with_room (places_for minor) m)
begun_least keep minor m begun = record {
  inside = begun.inside;
  one = begun.one;
  keep_is = begun.keep_is;
  none_made = begun.none_made;
  room = omega arith;
}

pub new_session : (l : Limits) (client : ℕ) (s : Session)
    → IsSessionFor l client (places_for l.minor) s → IsNewSession l client s
new_session l client s is = record {
  entries = is.entries;
  client_is = is.client_is;
  keep = is.keep;
  versions = is.versions;
  minor = is.minor;
  may = λ m begun. may_with_more s m (places_for l.minor) begun.room
      (is.may (with_room (places_for l.minor) m) (begun_least l.keep l.minor m begun) refl);
}

pub session_for : (l : Limits) (client room : ℕ) (s : Session) → IsNewSession l client s
    → IsSessionFor l client room s
session_for l client room s is = record {
  entries = is.entries;
  client_is = is.client_is;
  keep = is.keep;
  versions = is.versions;
  minor = is.minor;
  may = λ m begun _. is.may m begun;
}

pub ready_session : (heap : HeapId) (queue : FreeQueue) (l : Limits) (number : ℕ)
    (client : Worker Pass Client) → IsReady heap queue l number client
    → IsNewSession l (number + 1) client.own.session
ready_session heap queue l number client ready =
    new_session l (number + 1) client.own.session ready.own.session
