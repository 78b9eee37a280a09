-- The draft, as its places and records change.
use Rattle.std.proofs.Common.{◌≡◌, ◌<◌, ◌≤◌, ◌+◌, ℕ, List, [], length, sym}
use Rattle.std.proofs.Common.{◌∙◌, ap, subst, arith}
use Rattle.client_trees.specs.declared.at.NodeAt.{NodeAt}
use Rattle.client_trees.specs.declared.at.NodeAt.TheVariants as at
use Rattle.client_trees.specs.Records.{IsRecord, known_term, stands_on}
use Rattle.client_trees.specs.Nodes.{IsTreeAt}
use Rattle.doc_records.specs.Trees.{IsTreeNode}
use Rattle.heap_rule.specs.Asks.{known_of}
use Rattle.minor_heap.specs.Nursery.{Nursery}
use Rattle.minor_heap.specs.declared.fields.MinorField.{MinorField}
use Rattle.mutator_seat.specs.Bound.{Bound}
use Rattle.version_rule.specs.Pass.{Pass}
use Rattle.client_heap.specs.Carries.{Follows}
use Rattle.client_heap.specs.Shows.{node_term}
use Rattle.client_heap.specs.Sound.{IsCleared, IsSound}
use Rattle.client_heap.proofs.Carrying.{stands_more}

-- the draft is a node that is held
pub draft_node : (m : Bound Pass) (minor : Nursery) (d : NodeAt) (b : ℕ) → IsSound m minor d b
    → IsTreeAt m minor d
draft_node m minor d b sound = record {
  stands = stands_more m.seat.me.known minor.records b (length m.seat.me.own.held) d sound.kept
      sound.stands;
  node = sound.node;
}

-- a node becomes the draft, with all places
pub held_sound : (m : Bound Pass) (minor : Nursery) (d a : NodeAt) (b held : ℕ)
    → IsSound m minor d b → IsTreeAt m minor a → held ≡ length m.seat.me.own.held
    → length m.seat.me.own.held + length minor.records + 9_100 ≤ m.seat.me.room
    → IsSound m minor a held
held_sound m minor d a b held sound node is ready = record {
  inside = sound.inside;
  some = let one = sound.some in let few = sound.kept in omega (arith, one, few, is);
  kept = omega (arith, is);
  stands = subst (λ (n : ℕ). stands_on m.seat.me.known minor.records n a) (sym is) node.stands;
  node = node.node;
  records = sound.records;
  places = sound.places;
  ready = omega (arith, is, ready);
}

-- a shared one after the anchor
module _ (m n : Bound Pass) (minor : Nursery) (d : NodeAt) (b place : ℕ)
    (sound : IsSound m minor d b) (stands : IsRecord (known_of m.seat.me place))
    (node : IsTreeNode (known_term (known_of m.seat.me place)))
    (f : Follows m n minor minor) (held : length n.seat.me.own.held ≡ 2)
    (known : known_of n.seat.me 1 ≡ known_of m.seat.me place) where
  pub alone_sound : 2 + length minor.records + 9_100 ≤ m.seat.me.room
      → IsSound n minor (at.Shared 1) 2
  alone_sound ready = record {
    inside = f.inside ∙ sound.inside;
    some = omega arith;
    kept = omega (arith, held);
    stands = (omega arith, subst IsRecord (sym known) stands);
    node = subst IsTreeNode (sym (ap known_term known)) node;
    records = sound.records;
    places = let few = sound.places in let same = f.room in omega (arith, few, same);
    ready = let same = f.room in omega (arith, ready, same);
  }

  pub alone_term : node_term n minor (at.Shared 1) ≡ node_term m minor (at.Shared place)
  alone_term = ap known_term known

-- no record is left, and few places
module _ (m n : Bound Pass) (old new : Nursery) (d : NodeAt) (b : ℕ) (sound : IsSound m old d b)
    (f : Follows m n old new) (none : new.records ≡ []) where
  no_more : length new.records ≡ 0
  no_more = ap (λ (xs : List (List MinorField)). length xs) none

  pub few_cleared : (k : ℕ) → length n.seat.me.own.held ≡ k → k ≤ 2 → IsCleared n new
  few_cleared k is few =
      let zero = no_more in
      let same = f.room in
      let still = f.minor_room in
      let many = sound.records in
      let places = sound.places in
      record {
        room = omega (arith, zero, same, many, places, is, few);
        spare = omega (arith, zero, still, many);
      }

  pub few_sound : (a : NodeAt) (k : ℕ) → 1 ≤ k → k ≤ 2 → length n.seat.me.own.held ≡ k
      → IsTreeAt n new a → IsSound n new a k
  few_sound a k some few is node =
      let zero = no_more in
      let same = f.room in
      let still = f.minor_room in
      let many = sound.records in
      let places = sound.places in
      record {
        inside = f.inside ∙ sound.inside;
        some = some;
        kept = omega (arith, is);
        stands = subst (λ (i : ℕ). stands_on n.seat.me.known new.records i a) is node.stands;
        node = node.node;
        records = omega (arith, still, many);
        places = omega (arith, same, still, places);
        ready = omega (arith, zero, same, many, places, few);
      }

-- the first places are known as they were
module _ (m n : Bound Pass) (old new : Nursery) (place b : ℕ)
    (sound : IsSound m old (at.Shared place) b) (held : length n.seat.me.own.held ≡ b)
    (known : (p : ℕ) → p < b → known_of n.seat.me p ≡ known_of m.seat.me p) where
  pub cleared_term : node_term n new (at.Shared place) ≡ node_term m old (at.Shared place)
  cleared_term = ap known_term (known place sound.stands.0)

  pub cleared_node : IsTreeAt n new (at.Shared place)
  cleared_node = record {
    stands = (
      let lt = sound.stands.0 in omega (arith, held, lt),
      subst IsRecord (sym (known place sound.stands.0)) sound.stands.1,
    );
    node = subst IsTreeNode (sym (ap known_term (known place sound.stands.0))) sound.node;
  }
