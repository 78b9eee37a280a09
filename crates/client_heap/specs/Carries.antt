-- What a call carries on: whatever stood on the first so many places of the held list still stands
-- there, and says what it said.
-- Source: this project's.
use Rattle.std.specs.Prelude.{ℕ, ◌≡◌, ◌<◌, ◌≤◌, length}
use Rattle.client_trees.specs.declared.at.NodeAt.{NodeAt}
use Rattle.client_trees.specs.Records.{stands_on, term_at}
use Rattle.minor_heap.specs.Nursery.{Nursery}
use Rattle.mutator_seat.specs.Bound.{Bound}
use Rattle.version_rule.specs.Pass.{Pass}
use Rattle.version_store.specs.Held.{IsHeld, root_at}
use Rattle.version_store.specs.Lasts.{IsSameMutator, LastsAcross}
use Rattle.version_rule.specs.declared.held.HeldVersion.{HeldVersion}

-- of a mutator and its private heap before and after: it is the same mutator of the same heap, in
-- or out as it was, with the same room
pub record Follows (m n : Bound Pass) (old new : Nursery) : Type 0 where
  pub inside : n.seat.me.presence.inside ≡ m.seat.me.presence.inside
  pub room : n.seat.me.room ≡ m.seat.me.room
  pub cells : n.seat.me.shape.cells ≡ m.seat.me.shape.cells
  pub minor_room : new.room ≡ old.room
  pub same : IsSameMutator m n
  pub lasts : LastsAcross m n

-- and what stood on the first places still stands there
pub record Carries (places : ℕ) (m n : Bound Pass) (old new : Nursery) : Type 0 where
  pub follows : Follows m n old new
  pub longer : places ≤ length n.seat.me.own.held
  pub still : (a : NodeAt) (few : ℕ) → few ≤ places
      → stands_on m.seat.me.known old.records few a
      → stands_on n.seat.me.known new.records few a
  pub same : (a : NodeAt) → stands_on m.seat.me.known old.records places a
      → term_at n.seat.me.known new.records a ≡ term_at m.seat.me.known old.records a
  pub versions : (v : HeldVersion) → v.place < places → IsHeld m v → IsHeld n v
  pub roots : (v : HeldVersion) → v.place < places → IsHeld m v
      → root_at n v.place ≡ root_at m v.place
