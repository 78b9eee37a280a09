-- What holds of a client's mutator, private heap and draft between calls.
-- Source: this project's.
use Rattle.std.specs.Prelude.{ℕ, ◌≡◌, ◌≤◌, ◌+◌, ◌*◌, ◌&&◌, Bool, true, length, nat_le}
use Rattle.client_history.specs.declared.places.TheConstants.{BATCH_ROOM, EDIT_SPARE}
use Rattle.client_history.specs.declared.places.TheConstants.{LEAST_MINOR, MADE_ROOM}
use Rattle.client_history.specs.declared.places.TheConstants.{PLACES_BESIDES, PLACES_PER_RECORD}
use Rattle.client_history.specs.declared.places.TheConstants.{SETTLED_ROOM}
use Rattle.client_trees.specs.declared.at.NodeAt.{NodeAt}
use Rattle.client_trees.specs.Records.{stands_on, term_at}
use Rattle.doc_records.specs.Trees.{IsTreeNode}
use Rattle.minor_heap.specs.Nursery.{Nursery}
use Rattle.mutator_seat.specs.Bound.{Bound}
use Rattle.version_rule.specs.Pass.{Pass}

-- The mutator is in. The draft is the node of a lawful tree, and stands on the first places, which
-- stay; after these there is room for every reading.
pub record IsSound (m : Bound Pass) (minor : Nursery) (draft : NodeAt) (base : ℕ) : Type 0 where
  pub inside : m.seat.me.presence.inside ≡ true
  pub some : 1 ≤ base
  pub kept : base ≤ length m.seat.me.own.held
  pub stands : stands_on m.seat.me.known minor.records base draft
  pub node : IsTreeNode (term_at m.seat.me.known minor.records draft)
  -- so many records at least, and four places for each of them
  pub records : LEAST_MINOR ≤ minor.room
  pub places : PLACES_PER_RECORD * minor.room + PLACES_BESIDES ≤ m.seat.me.room
  pub ready : base + length minor.records + SETTLED_ROOM ≤ m.seat.me.room

-- there is room for an edit
pub record IsCleared (m : Bound Pass) (minor : Nursery) : Type 0 where
  pub room : length m.seat.me.own.held + length minor.records + MADE_ROOM ≤ m.seat.me.room
  pub spare : length minor.records + EDIT_SPARE ≤ minor.room

-- whether there is
abbrev pub is_cleared : Bound Pass → Nursery → Bool
is_cleared m minor =
    nat_le (length m.seat.me.own.held + length minor.records + MADE_ROOM) m.seat.me.room
    && nat_le (length minor.records + EDIT_SPARE) minor.room

-- there is room to read the latest version again, and then for an edit of a tree in the making
pub record HasRoom (m : Bound Pass) (minor : Nursery) : Type 0 where
  pub room : length m.seat.me.own.held + length minor.records + BATCH_ROOM ≤ m.seat.me.room
  pub spare : length minor.records + EDIT_SPARE ≤ minor.room
