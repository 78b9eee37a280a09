-- What an ageing of the private heap, or a cut of it, leaves of a node.
-- Source: this project's.
use Rattle.std.specs.Prelude.{ℕ, ◌≡◌, ◌+◌, List}
use Rattle.client_trees.specs.declared.at.NodeAt.{NodeAt}
use Rattle.client_trees.specs.declared.at.NodeAt.TheVariants as at
use Rattle.client_trees.specs.Records.{stands_on, term_at}
use Rattle.heap_rule.specs.declared.known.Known.{Known}
use Rattle.minor_heap.specs.declared.fields.MinorField.{MinorField}
use Rattle.minor_heap.specs.Nursery.{Stands}

-- the node's record is there, if it is a private one
abbrev pub is_there : List (List MinorField) → NodeAt → Type 0
is_there records (at.Shared place) = Unit {0}
is_there records (at.Minor r) = Stands records r

-- how many private records there are up to the node's own; none, if it is a shared one
abbrev pub up_to : NodeAt → ℕ
up_to (at.Shared place) = 0
up_to (at.Minor r) = r.number + 1

-- Of the private records before and after it, and of the node as it was named and as it is: it
-- stands on the places on which it stood, whatever is known of them, and says what it said. So the
-- calls that age take no mutator.
pub record Ages (old new : List (List MinorField)) (a b : NodeAt) : Type 0 where
  pub still : (known : List Known) (places : ℕ) → stands_on known old places a
      → stands_on known new places b
  pub same : (known : List Known) → term_at known new b ≡ term_at known old a
