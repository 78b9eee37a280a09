-- What a call leaves of a mutator and of its private heap.
-- Source: this project's.
use Rattle.std.specs.Prelude.{ℕ, ◌≡◌, ◌<◌, ◌≤◌, ◌+◌, ◌++◌, List, length}
use Rattle.std.specs.Prelude.{Option, Some, None}
use Rattle.client_trees.specs.declared.at.NodeAt.{NodeAt}
use Rattle.client_trees.specs.declared.at.NodeAt.TheVariants as at
use Rattle.client_trees.specs.Records.{BeginWith, IsSomething, stands_on, term_at}
use Rattle.heap_rule.specs.Asks.{known_of}
use Rattle.minor_heap.specs.Nursery.{Nursery}
use Rattle.mutator_seat.specs.Bound.{Bound, held_cells}
use Rattle.trails.specs.Asks.{Grown}
use Rattle.trails.specs.Marks.{marks_of}

module _ {P : Type 0} where
  -- The same mutator of the same heap, in or out as it was, with its pass and its claims. Whatever
  -- was held and known still is, with some places after it; the trail grew. The private heap still
  -- has its records, with some after them, and whatever stood still stands and says what it said.
  pub record Leaves (m n : Bound P) (old new : Nursery) : Type 0 where
    pub heap : n.heap ≡ m.heap
    pub table : n.seat.table ≡ m.seat.table
    pub shape : n.seat.me.shape ≡ m.seat.me.shape
    pub role : n.seat.me.role ≡ m.seat.me.role
    pub number : n.seat.me.number ≡ m.seat.me.number
    pub room : n.seat.me.room ≡ m.seat.me.room
    pub presence : n.seat.me.presence ≡ m.seat.me.presence
    pub pass : n.seat.me.pass ≡ m.seat.me.pass
    pub claims : n.seat.me.own.claims ≡ m.seat.me.own.claims
    pub mode : n.seat.me.own.mode ≡ m.seat.me.own.mode
    pub added : List ℕ
    pub held : held_cells n ≡ held_cells m ++ added
    pub known : (place : ℕ) → place < length m.seat.me.own.held
        → IsSomething (known_of m.seat.me place)
        → known_of n.seat.me place ≡ known_of m.seat.me place
    pub marks : Grown (marks_of m.seat.me.trail) (marks_of n.seat.me.trail)
    pub records_room : new.room ≡ old.room
    pub records : BeginWith old.records new.records
    pub still : (at : NodeAt) (places : ℕ) → places ≤ length m.seat.me.own.held
        → stands_on m.seat.me.known old.records places at
        → stands_on n.seat.me.known new.records places at
    pub now : (at : NodeAt) → stands_on m.seat.me.known old.records (length m.seat.me.own.held) at
        → stands_on n.seat.me.known new.records (length n.seat.me.own.held) at
    pub same : (at : NodeAt)
        → stands_on m.seat.me.known old.records (length m.seat.me.own.held) at
        → term_at n.seat.me.known new.records at ≡ term_at m.seat.me.known old.records at

  -- and nothing comes after what was held, and no record was made
  pub record LeavesAll (m n : Bound P) (old new : Nursery) : Type 0 where
    pub leaves : Leaves m n old new
    pub held : held_cells n ≡ held_cells m
    pub minor : new ≡ old

-- by how many places were held before and after: a shared child is held at the one next place, and
-- for any other answer there is none more
abbrev pub IsLast : (before behind : ℕ) → Option NodeAt → Type 0
IsLast before behind None = behind ≡ before
IsLast before behind (Some (at.Shared place)) = (place ≡ before) × (behind ≡ before + 1)
IsLast before behind (Some (at.Minor r)) = behind ≡ before
