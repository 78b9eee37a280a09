-- Private nodes as shared ones: where the copy of a node stands, and what is known of it there.
-- Source: this project's.
use Rattle.std.specs.Prelude.{ℕ, ◌≡◌, ◌<◌, length}
use Rattle.cell_words.specs.Term.{Term}
use Rattle.client_trees.specs.declared.at.NodeAt.{NodeAt}
use Rattle.client_trees.specs.declared.at.NodeAt.TheVariants as at
use Rattle.heap_rule.specs.Asks.{known_of}
use Rattle.heap_rule.specs.declared.known.Known.TheVariants as knows
use Rattle.mutator_seat.specs.Bound.{Bound}
use Rattle.version_rule.specs.Pass.{Pass}

-- the cell of the place is known as a record with this term
pub record HoldsTerm (m : Bound Pass) (place : ℕ) (t : Term) : Type 0 where
  pub there : place < length m.seat.me.own.held
  pub known : known_of m.seat.me place ≡ knows.Record t

-- where a node stands after a copy of it was made at a place, if it was private
abbrev pub shared_place : ℕ → NodeAt → ℕ
shared_place copy (at.Shared place) = place
shared_place copy (at.Minor r) = copy
