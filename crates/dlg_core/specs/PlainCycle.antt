-- A cycle of the plain collector alone: its events from the stage Idle up to the next Post(Idle),
-- and how many there can be.
--
-- The collector takes turns. A turn is its next event; before it answers for a mutator that is out,
-- it takes a look at the mutator's status, which is an event of its own.
-- Source: this project's.
use Rattle.std.specs.Prelude.{ℕ, ◌≡◌, ◌+◌, ◌*◌, ◌≤◌, Bool, true, false, not, ◌&&◌, nat_lt, List, []}
use Rattle.std.specs.Prelude.{◌∷◌, ◌++◌, length, Option, Some, None}
use Rattle.std.specs.List.{list_all}
use Rattle.cell_words.specs.declared.controls.Stage.{Stage}
use Rattle.cell_words.specs.declared.controls.Stage.TheVariants as stage
use Rattle.cell_words.specs.declared.presences.Presence.{Presence}
use Rattle.core_machine.specs.declared.events.Event.{Event}
use Rattle.core_machine.specs.declared.events.Event.TheVariants as event
use Rattle.core_machine.specs.Handshakes.{at_stage}
use Rattle.core_machine.specs.State.{State, greatest_cycles}
use Rattle.dlg_core.specs.Plain.{next_plain_of}
use Rattle.dlg_core.specs.Runs.{LeadsTo}

-- the look before the event
abbrev pub look_before : Event → Option Event
look_before (event.AnswerOut i over) = Some (event.Poll i)
look_before _ = None

abbrev pub behind_look : Option Event → Event → List Event
behind_look None e = e ∷ []
behind_look (Some look) e = look ∷ e ∷ []

-- the events of a turn: its event, after the look before it
abbrev pub turn_with : Event → List Event
turn_with e = behind_look (look_before e) e

abbrev pub is_idle : Stage → Bool
is_idle stage.Idle = true
is_idle stage.Sync1 = false
is_idle stage.Clear = false
is_idle stage.Sync2 = false
is_idle stage.Trace = false
is_idle stage.Sweep = false

-- the event is Post(Idle)
abbrev pub ends_cycle : Event → Bool
ends_cycle (event.Post target) = is_idle target
ends_cycle _ = false

-- From the state on the events are the plain collector's, a turn after the other, up to and
-- including the next Post(Idle), and lead to t.
pub data PlainCycle (t : State) : State → List Event → Type 0 where
  ends : {s : State} {events : List Event} (e : Event) → next_plain_of s ≡ Some e
      → ends_cycle e ≡ true
      → LeadsTo s (turn_with e) t → events ≡ turn_with e → PlainCycle t s events
  goes_on : {s : State} {events : List Event} (e : Event) (q : State) (rest : List Event)
      → next_plain_of s ≡ Some e
      → ends_cycle e ≡ false → LeadsTo s (turn_with e) q → PlainCycle t q rest
      → events ≡ turn_with e ++ rest
      → PlainCycle t s events

-- every mutator is out
abbrev pub is_out : Presence → Bool
is_out presence = not presence.inside

abbrev pub all_out : State → Bool
all_out s = list_all is_out s.presences

-- a cycle may begin here, and nothing holds it up: nobody is in who would have to answer
abbrev pub may_finish : State → Bool
may_finish s = at_stage s stage.Idle && nat_lt s.control.cycles greatest_cycles && all_out s

-- how many events such a cycle has at most
abbrev pub most_events : ℕ → ℕ → ℕ
most_events cells mutators = cells * cells + 23 * cells + 6 * mutators + 7

-- A whole cycle of the plain collector has led from s to t, in so many events.
pub record HasFinished (s : State) (taken : ℕ) (t : State) : Type 0 where
  pub events : List Event
  pub plain : PlainCycle t s events
  -- each event was possible when its turn came
  pub leads : LeadsTo s events t
  pub many : length events ≡ taken
  pub few : taken ≤ most_events s.cells s.mutators
