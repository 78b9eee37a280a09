-- Shared nodes in the words of the store, and what its calls carry on.
use Rattle.std.proofs.Common.{◌≡◌, ◌+◌, ℕ, List, length, refl, sym, ap}
use Rattle.std.proofs.Common.{subst, arith}
use Rattle.std.proofs.Common.{Result, Ok, Err}
use Rattle.std.specs.Prelude.{OnErr}
use Rattle.client_trees.specs.declared.at.NodeAt.TheVariants as at
use Rattle.client_trees.specs.Records.{IsRecord, known_term}
use Rattle.client_trees.specs.Nodes.{IsTreeAt, tree_at}
use Rattle.doc_records.specs.Trees.{IsTreeNode, tree_of}
use Rattle.heap_rule.specs.Asks.{known_of}
use Rattle.heap_rule.specs.declared.known.Known.{Known}
use Rattle.heap_rule.specs.declared.known.Known.TheVariants as knows
use Rattle.minor_heap.specs.Nursery.{IsOrdered, Nursery}
use Rattle.mutator_seat.specs.Bound.{Bound}
use Rattle.trails.specs.Claims.{IsFull}
use Rattle.trails.specs.Stretches.{Had}
use Rattle.trails.proofs.Stretches.{had_late}
use Rattle.version_rule.specs.Pass.{Pass}
use Rattle.version_store.specs.Calls.{Holds}
use Rattle.version_store.specs.Held.{IsRecord as HoldsRecord, term_at, term_told}
use Rattle.version_store.specs.Lasts.{IsSameMutator, LastsAcross, marks}
use Rattle.held_places.proofs.Going.{many_held}
use Rattle.client_heap.specs.Carries.{Carries, Follows}
use Rattle.client_heap.proofs.Carrying.{carries_known}

told_same : (k : Known) → term_told k ≡ known_term k
told_same knows.Nothing = refl
told_same (knows.Raw fields) = refl
told_same (knows.Fresh fields) = refl
told_same (knows.Record t) = refl
told_same (knows.Boxed told) = refl

known_told : (k : Known) → IsRecord k → k ≡ knows.Record (term_told k)
known_told knows.Nothing is = absurd is
known_told (knows.Raw fields) is = absurd is
known_told (knows.Fresh fields) is = absurd is
known_told (knows.Record t) is = refl
known_told (knows.Boxed told) is = absurd is

module _ (m : Bound Pass) (minor : Nursery) (place : ℕ)
    (node : IsTreeAt m minor (at.Shared place)) where
  pub holds_record : HoldsRecord m place
  holds_record = record {
    there = node.stands.0;
    known = known_told (known_of m.seat.me place) node.stands.1;
  }

  pub node_spells : IsTreeNode (term_at m place)
  node_spells = subst IsTreeNode (sym (told_same (known_of m.seat.me place))) node.node

  pub node_tree : tree_of (term_at m place) ≡ tree_at m minor (at.Shared place)
  node_tree = ap tree_of (told_same (known_of m.seat.me place))

module _ (m n : Bound Pass) (minor : Nursery) (cells : List ℕ) (holds : Holds cells m n) where
  pub holds_held : length n.seat.me.own.held
      ≡ length m.seat.me.own.held + length cells
  holds_held = many_held m n cells holds.held

  pub holds_carries : IsOrdered 0 minor.records → LastsAcross m n → IsSameMutator m n
      → Carries (length m.seat.me.own.held) m n minor minor
  holds_carries ordered lasts same =
      carries_known (length m.seat.me.own.held) m n minor ordered same lasts holds.known
      (let more = many_held m n cells holds.held in omega (arith, more))

-- a claim that found the heap full after such a call, told of the state before it
pub full_late : (m n o : Bound Pass) (old new : Nursery) → Follows m n old new
    → Had (IsFull n.seat.me.shape.cells) (marks n) (marks o)
    → Had (IsFull m.seat.me.shape.cells) (marks m) (marks o)
full_late m n o old new f had =
    had_late (IsFull m.seat.me.shape.cells) f.lasts.grown
    (subst (λ (k : ℕ). Had (IsFull k) (marks n) (marks o)) f.cells had)

pub on_refusal : {T E : Type 0} {A B : Type 0} (result : Result T E) → (A → B) → OnErr
    result A
    → OnErr result B
on_refusal (Ok value) step had = tt
on_refusal (Err fault) step had = step had
