-- What no collector may do to a mutator: safe states.
-- Source: Doligez and Leroy, POPL 1993 (safety of the collector); this project's (null fields of
-- free cells).
use Rattle.std.specs.Prelude.{ℕ, ◌≡◌, ◌≢◌, List, take}
use Rattle.cell_words.specs.declared.colours.Colour.TheVariants.{Blue}
use Rattle.cell_words.specs.declared.fields.Field.TheVariants.{Null}
use Rattle.core_machine.specs.declared.events.Event.{Event}
use Rattle.core_machine.specs.State.{State, colour_of, field_of}
use Rattle.dlg_core.specs.Reachable.{Reachable}
use Rattle.dlg_core.specs.Runs.{LeadsTo}

-- no reachable cell is free, and a free cell has nothing in it
pub record IsSafe (s : State) : Type 0 where
  pub reached : (c : ℕ) → Reachable s c → colour_of s c ≢ Blue
  pub wiped : (c f : ℕ) → colour_of s c ≡ Blue → field_of s c f ≡ Null

-- every state that the events pass on their way is safe, as far as they can happen
abbrev pub StaysSafe : State → List Event → Type 0
StaysSafe s events = (k : ℕ) (t : State) → LeadsTo s (take k events) t → IsSafe t
