-- What the tests know between two calls holds after each call.
use Rattle.std.proofs.Common.{◌≡◌, ◌∙◌, true, ap}
use Rattle.client_trees.specs.declared.at.NodeAt.{NodeAt}
use Rattle.client_tests.specs.Works.{Works}
use Rattle.client_trees.specs.Leaves.{Leaves}
use Rattle.client_trees.specs.Nodes.{IsTreeAt}
use Rattle.client_trees.proofs.Leaving.{tree_still}
use Rattle.minor_heap.specs.Nursery.{Nursery}
use Rattle.mutator_seat.specs.Bound.{Bound}

module _ {P : Type 0} (m n : Bound P) (old new : Nursery) (left : Leaves m n old new) where
  pub still_in : m.seat.me.presence.inside ≡ true → n.seat.me.presence.inside ≡ true
  still_in is = ap (λ p. p.inside) left.presence ∙ is

  pub works_with : (root other : NodeAt) → Works m old root → IsTreeAt n new other
      → Works n new other
  works_with root other works is = record { inside = still_in works.inside; node = is }

  pub works_still : (root : NodeAt) → Works m old root → Works n new root
  works_still root works = works_with root root works (tree_still m n old new root left works.node)

  -- and any other node that stood
  pub node_still : (at : NodeAt) → IsTreeAt m old at → IsTreeAt n new at
  node_still at is = tree_still m n old new at left is

pub ruleset working = (still_in, works_with, works_still, node_still)
