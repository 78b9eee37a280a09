-- The heap of a store, opened for its clients.
-- Source: this project's.
use Rattle.std.specs.Prelude.{ℕ}
use Rattle.client_session.specs.declared.journal.Limits.{Limits}
use Rattle.client_threads.specs.Clients.{IsNewClient, places_for}
use Rattle.client_threads.specs.declared.clients.Client.{Client}
use Rattle.heap_rule.specs.Shape.{Shape}
use Rattle.mutator_threads.specs.Mutators.{IsOpened}
use Rattle.mutator_threads.specs.declared.opening.Opened.{Opened}
use Rattle.version_rule.specs.Opening.{first_rows}
use Rattle.version_rule.specs.Pass.{Pass, opening_pass}

-- the heap of a store: the setting is how many versions stay
abbrev pub store_shape : ℕ → ℕ → ℕ → Shape
store_shape cells mutators keep = record {
  cells = cells;
  mutators = mutators;
  setting = keep;
  first = first_rows;
}

-- The heap is opened, and its clients have not begun.
abbrev pub IsOpenStore : ℕ → ℕ → Limits → Opened Pass Client → Type 0
IsOpenStore cells clients l made =
    IsOpened opening_pass (store_shape cells clients l.keep) (places_for l.minor) (IsNewClient l)
    made
