-- A mutator's own part: what no word of the heap shows. And how each of its events changes it.
--
-- The change is a function of the part, the event and what it found alone, so whoever knows these
-- knows the part after the event. Events of the collector leave it.
-- Source: this project's.
use Rattle.std.specs.Prelude.{ℕ, ◌+◌, true, false, List, [], ◌∷◌, ◌++◌, map, Option, Some, None}
use Rattle.cell_words.specs.declared.colours.Colour.{Colour}
use Rattle.cell_words.specs.declared.colours.Colour.TheVariants as colour
use Rattle.cell_words.specs.declared.controls.Control.{Control}
use Rattle.cell_words.specs.declared.fields.Field.{Field}
use Rattle.cell_words.specs.declared.fields.Field.TheVariants as field
use Rattle.cell_words.specs.declared.presences.Presence.{Presence}
use Rattle.cell_words.specs.Modes.{next_status_of}
use Rattle.core_machine.specs.declared.events.Found.{Found}
use Rattle.core_machine.specs.declared.events.Found.TheVariants as finds
use Rattle.core_machine.specs.declared.events.Event.{Event}
use Rattle.core_machine.specs.declared.events.Event.TheVariants as event
use Rattle.core_machine.specs.declared.pending.Pending.{Pending}
use Rattle.core_machine.specs.declared.places.Held.{Held}
use Rattle.core_machine.specs.Places.{cell_at, found_at, unmark, mark_of, kept}

pub record Own : Type 0 where
  -- the places, each a cell and whether it is marked
  pub held : List Held
  -- the control as the last look found it
  pub mode : Option Control
  -- the write that it has begun and not ended, if there is one
  pub pending : Option Pending
  -- how many cells it has claimed
  pub claims : ℕ

-- at the opening, and of a mutator that there is not
abbrev pub no_own : Own
no_own = record { held = []; mode = None; pending = None; claims = 0 }

-- the pending write, and of who has none one that is harmless
abbrev pub pending_or_none : Option Pending → Pending
pending_or_none None = record { place = 0; f = 0; found = field.Null }
pending_or_none (Some write) = write

-- Changes.

abbrev pub begun : Own → Own
begun own = record own { held = found_at 0 ∷ []; mode = None }

abbrev pub looked : Own → Control → Own
looked own control = record own { held = map unmark own.held; mode = Some control }

-- a cell is held, not marked
abbrev pub holding : Own → ℕ → Own
holding own cell = record own { held = own.held ++ found_at cell ∷ [] }

-- a read holds the cell that it finds, and nothing else
abbrev pub having_read : Own → Field → Own
having_read own field.Null = own
having_read own (field.Num n) = own
having_read own (field.Cell c) = holding own c

-- and a fetch has the field to store besides, with the value that it finds
abbrev pub having_fetched : Own → ℕ → ℕ → Field → Own
having_fetched own place f found = record (having_read own found) {
  pending = Some (record { place = place; f = f; found = found });
}

-- all places of the cell are marked
abbrev pub marking : Own → ℕ → Own
marking own cell = record own { held = map (mark_of cell) own.held }

-- no mode, no pending write and no mark
abbrev pub spent : Own → Own
spent own = record own { held = map unmark own.held; mode = None; pending = None }

-- a claim of a blue cell holds it; of any other it changes nothing
abbrev pub having_claimed : Own → ℕ → Colour → Own
having_claimed own cell colour.Blue =
    record own { held = own.held ++ found_at cell ∷ []; mode = None; claims = own.claims + 1 }
having_claimed own cell colour.White = own
having_claimed own cell colour.Gray = own
having_claimed own cell colour.Black = own

abbrev pub keeping : Own → ℕ → ℕ → ℕ → Own
keeping own count from copies = record own { held = kept own.held count from copies }

abbrev pub ended : Own → Own
ended own = record own { held = []; mode = None; pending = None }

-- Changes by what an event found. What it cannot find changes nothing.

abbrev pub looked_by : Own → Found → Own
looked_by own (finds.Control control) = looked own control
looked_by own _ = own

abbrev pub having_read_by : Own → Found → Own
having_read_by own (finds.Field found) = having_read own found
having_read_by own _ = own

abbrev pub having_fetched_by : Own → ℕ → ℕ → Found → Own
having_fetched_by own place f (finds.Field found) = having_fetched own place f found
having_fetched_by own place f _ = own

abbrev pub having_claimed_by : Own → ℕ → Found → Own
having_claimed_by own cell (finds.Colour found) = having_claimed own cell found
having_claimed_by own cell _ = own

-- what an event of the mutator leaves of its own part
abbrev pub own_after : Own → Event → Found → Own
own_after own (event.Begin i) found = begun own
own_after own (event.Look i) found = looked_by own found
own_after own (event.Read i place f) found = having_read_by own found
own_after own (event.Fetch i place f) found = having_fetched_by own place f found
own_after own (event.Mark i place) found = marking own (cell_at own.held place)
own_after own (event.Write i place f old new) found = spent own
own_after own (event.Store i new) found = spent own
own_after own (event.Claim i cell) found = having_claimed_by own cell found
own_after own (event.Answer i) found = spent own
own_after own (event.Keep i count from copies) found = keeping own count from copies
own_after own (event.End i) found = ended own
own_after own _ found = own

-- What an event of the mutator leaves of its presence.

-- it takes the status that it finds, since the collector may have answered while it was out
abbrev pub present_by : Presence → Found → Presence
present_by presence
    (finds.Presence found) = record presence { status = found.status; inside = true }
present_by presence _ = presence

abbrev pub presence_after : Presence → Event → Found → Presence
presence_after presence (event.Begin i) found = present_by presence found
presence_after presence
    (event.Answer i) found = record presence { status = next_status_of presence.status }
presence_after presence (event.End i) found = record presence { inside = false }
presence_after presence (event.Over i) found = record presence { over = true }
presence_after presence _ found = presence
