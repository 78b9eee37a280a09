-- Trails: what of a run a mutator has done, or the collector, and what these know from it.
--
-- Each knows its own part from its own trail: where it began, its events, and what they found.
-- Source: this project's.
use Rattle.std.specs.Prelude.{ℕ, Bool, true, false, ◌==◌, List, [], ◌∷◌, Option, Some, None}
use Rattle.std.specs.Prelude.{if◌then◌else◌}
use Rattle.cell_words.specs.declared.controls.Control.{Control}
use Rattle.cell_words.specs.declared.presences.Presence.{Presence}
use Rattle.core_machine.specs.declared.events.Event.{Event}
use Rattle.core_machine.specs.declared.events.Found.{Found}
use Rattle.core_machine.specs.declared.events.Taken.{Taken}
use Rattle.core_machine.specs.Collector.{Collector, collector_after, control_after}
use Rattle.core_machine.specs.Next.{maker}
use Rattle.core_machine.specs.Own.{Own, own_after, presence_after}
use Rattle.core_machine.specs.State.{State}

-- both are the same mutator, or the collector
abbrev pub same_maker : Option ℕ → Option ℕ → Bool
same_maker None None = true
same_maker None (Some j) = false
same_maker (Some i) None = false
same_maker (Some i) (Some j) = i == j

-- the events of one maker, in their order: of mutator i those by `Some i`, of the collector those
-- by `None`
abbrev pub trail_of : Option ℕ → List Taken → List Taken
trail_of who [] = []
trail_of who (t ∷ ts) = if same_maker who
    (maker t.event) then t ∷ trail_of who ts else trail_of who ts

-- What a trail leaves of a part.

abbrev pub own_along : Own → List Taken → Own
own_along own [] = own
own_along own (t ∷ ts) = own_along (own_after own t.event t.found) ts

-- of what a mutator knows of its presence
abbrev pub presence_along : Presence → List Taken → Presence
presence_along presence [] = presence
presence_along presence (t ∷ ts) = presence_along (presence_after presence t.event t.found) ts

-- The control, which the collector alone stores, and the collector's own part.
pub record Collecting : Type 0 where
  pub control : Control
  pub part : Collector

abbrev pub collecting_of : State → Collecting
collecting_of s = record { control = s.control; part = s.collector }

abbrev pub collecting_after : ℕ → Collecting → Event → Found → Collecting
collecting_after cells c e found =
    record {
      control = control_after c.control e;
      part = collector_after cells c.control c.part e
          found;
    }

-- in a heap of so many cells
abbrev pub collecting_along : ℕ → Collecting → List Taken → Collecting
collecting_along cells c [] = c
collecting_along cells c (t ∷ ts) = collecting_along cells
    (collecting_after cells c t.event t.found) ts

-- the state where the mutators have other rooms
abbrev pub roomed : State → List ℕ → State
roomed s rooms = record s { rooms = rooms }
