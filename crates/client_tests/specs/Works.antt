-- What the tests know between two calls.
-- Source: this project's.
use Rattle.std.specs.Prelude.{◌≡◌, true}
use Rattle.client_trees.specs.declared.at.NodeAt.{NodeAt}
use Rattle.client_trees.specs.Nodes.{IsTreeAt}
use Rattle.minor_heap.specs.Nursery.{Nursery}
use Rattle.mutator_seat.specs.Bound.{Bound}

-- the mutator is in, and the node stands
pub record Works {P : Type 0} (m : Bound P) (minor : Nursery) (root : NodeAt) : Type 0 where
  pub inside : m.seat.me.presence.inside ≡ true
  pub node : IsTreeAt m minor root
