-- What a client's mutator and private heap show of the client, in the words of its session.
-- Source: this project's.
use Rattle.std.specs.Prelude.{ℕ, ◌+◌, ◌-◌, length, Option, Some, None}
use Rattle.cell_words.specs.Term.{Term}
use Rattle.client_trees.specs.Records.{term_at}
use Rattle.client_trees.specs.declared.at.NodeAt.{NodeAt}
use Rattle.client_trees.specs.declared.at.NodeAt.TheVariants as at
use Rattle.client_session.specs.Handles.{Handles}
use Rattle.client_trees.specs.Nodes.{IsTreeAt, tree_at}
use Rattle.client_history.specs.State.{ClientState}
use Rattle.doc_records.specs.Trees.{tree_of}
use Rattle.heap_rule.specs.Asks.{target}
use Rattle.minor_heap.specs.Nursery.{Nursery}
use Rattle.mutator_seat.specs.Bound.{Bound}
use Rattle.trails.specs.Marks.{marks_of}
use Rattle.version_rule.specs.Pass.{Pass}
use Rattle.version_store.specs.Held.{IsHeld, root_at}

-- the term of the node that stands there
abbrev pub node_term : Bound Pass → Nursery → NodeAt → Term
node_term m minor at = term_at m.seat.me.known minor.records at

-- the cell of the shared heap in which it stands, if it is one of that heap
abbrev pub cell_of : Bound Pass → NodeAt → Option ℕ
cell_of m (at.Shared place) = Some (target m.seat.me place)
cell_of m (at.Minor r) = None

-- the state of a draft for which a number of first places stay
abbrev pub state_of : Bound Pass → Nursery → NodeAt → ℕ → ClientState
state_of m minor draft base = record {
  cells = m.seat.me.shape.cells;
  pass = m.seat.me.pass;
  marks = marks_of m.seat.me.trail;
  claims = m.seat.me.own.claims;
  draft = node_term m minor draft;
  base = base;
  held = length m.seat.me.own.held;
  room = m.seat.me.room - (length m.seat.me.own.held + length minor.records);
  spare = minor.room - length minor.records;
}

abbrev pub handles_of : Bound Pass → Nursery → Handles NodeAt
handles_of m minor = record {
  is_node = λ a. IsTreeAt m minor a;
  tree = λ a. tree_at m minor a;
  is_version = λ v. IsHeld m v;
  root = λ v. tree_of (root_at m v.place);
}
