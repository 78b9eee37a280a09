-- What the options of a run say: their ranges, the limits by which clients are answered, and the
-- heap that they ask for.
-- Source: this project's.
use Rattle.std.specs.Prelude.{ℕ, ◌≤◌}
use Rattle.cell_words.specs.declared.controls.TheConstants.{GREATEST_CYCLES, GREATEST_POSITION}
use Rattle.client_history.specs.declared.places.TheConstants.{LEAST_MINOR}
use Rattle.client_run.specs.declared.options.Options.{Options}
use Rattle.client_session.specs.declared.journal.Limits.{Limits as ClientLimits}
use Rattle.doc_model.specs.Answers.{Limits}
use Rattle.heap_rule.specs.Shape.{Shape}
use Rattle.version_rule.specs.Opening.{first_rows}

-- each number is within its range
pub record IsWithin (o : Options) : Type 0 where
  pub cells : (64 ≤ o.cells) × (o.cells ≤ GREATEST_POSITION)
  pub minor : (LEAST_MINOR ≤ o.minor) × (o.minor ≤ 262_144)
  pub keep : (1 ≤ o.keep) × (o.keep ≤ 100)
  pub versions : (1 ≤ o.versions) × (o.versions ≤ 1_000_000)
  pub cycles : o.cycles ≤ GREATEST_CYCLES

-- the limits by which each command is answered
abbrev pub limits_of : Options → Limits
limits_of o = record { keep = o.keep; versions = o.versions }

-- with the room of the private records
abbrev pub client_limits : Options → ClientLimits
client_limits o = record { keep = o.keep; versions = o.versions; minor = o.minor }

-- the heap: a mutator for each client; the setting is how many versions stay
abbrev pub shape_of : Options → ℕ → Shape
shape_of o clients = record {
  cells = o.cells;
  mutators = clients;
  setting = o.keep;
  first = first_rows;
}
