-- What a mutator's trail shows of the heap: the fields that it read or wrote, each with the cell
-- that it is of, the looks, and the claims that were tried.
--
-- A read or a write names a place of the held list. Which cell stood there follows from the events
-- before it, since each of them changes the own part by what it found alone. So whoever has a trail
-- has the cells. A trail is one maker's, so a mark does not say whose it is.
-- Source: this project's.
use Rattle.std.specs.Prelude.{ℕ, List, [], ◌∷◌, ◌++◌}
use Rattle.cell_words.specs.declared.colours.Colour.{Colour}
use Rattle.cell_words.specs.declared.controls.Control.{Control}
use Rattle.cell_words.specs.declared.fields.Field.{Field}
use Rattle.core_machine.specs.declared.events.Found.{Found}
use Rattle.core_machine.specs.declared.events.Found.TheVariants as finds
use Rattle.core_machine.specs.declared.events.Event.{Event}
use Rattle.core_machine.specs.declared.events.Event.TheVariants as event
use Rattle.core_machine.specs.declared.events.Taken.{Taken}
use Rattle.core_machine.specs.Own.{Own, no_own, own_after}
use Rattle.core_machine.specs.Places.{cell_at}

pub data Mark : Type 0 where
  -- this field of this cell held this
  saw : (cell field : ℕ) → Field → Mark
  -- this field of this cell was to have the new value over the old one, and held the value found
  -- before: it was written where it held the old one. So one mark serves an exchange that was made
  -- and one that was not; a store finds nothing.
  wrote : (cell field : ℕ) → (old new found : Field) → Mark
  -- the control was this
  looked : Control → Mark
  -- the cell had this colour, and was claimed where it was blue
  tried : (cell : ℕ) → Colour → Mark

-- what an event shows by what it found; nothing where that is of another kind

abbrev pub read_mark : ℕ → ℕ → Found → List Mark
read_mark cell f (finds.Field found) = saw cell f found ∷ []
read_mark cell f _ = []

abbrev pub write_mark : ℕ → ℕ → Field → Field → Found → List Mark
write_mark cell f old new (finds.Field found) = wrote cell f old new found ∷ []
write_mark cell f old new _ = []

abbrev pub look_mark : Found → List Mark
look_mark (finds.Control found) = looked found ∷ []
look_mark _ = []

abbrev pub claim_mark : ℕ → Found → List Mark
claim_mark cell (finds.Colour found) = tried cell found ∷ []
claim_mark cell _ = []

-- what an event shows, by the own part that it met
abbrev pub mark_of : Own → Event → Found → List Mark
mark_of own (event.Look i) found = look_mark found
mark_of own (event.Read i place f) found = read_mark (cell_at own.held place) f found
mark_of own (event.Write i place f old new) found =
    write_mark (cell_at own.held place) f old new found
mark_of own (event.Claim i cell) found = claim_mark cell found
mark_of own _ found = []

-- what the events show, one after the other, from an own part on
abbrev pub marks_from : Own → List Taken → List Mark
marks_from own [] = []
marks_from own (t ∷ ts) = mark_of own t.event t.found
    ++ marks_from (own_after own t.event t.found) ts

-- what a whole trail shows
abbrev pub marks_of : List Taken → List Mark
marks_of ts = marks_from no_own ts
