-- What a list of events does to a state when they are taken one after the other.
-- Source: this project's.
use Rattle.std.specs.Prelude.{ℕ, ◌≡◌, ◌<◌, List, [], ◌∷◌, length, take, None, IfSome}
use Rattle.std.specs.List.{slice_get}
use Rattle.core_machine.specs.declared.events.Event.{Event}
use Rattle.core_machine.specs.declared.events.Taken.{Taken}
use Rattle.core_machine.specs.State.{State}
use Rattle.core_machine.specs.Next.{found_by, after, next}
use Rattle.core_machine.specs.Run.{Runs, last}

-- each event with what it finds
abbrev pub taken_from : State → List Event → List Taken
taken_from s [] = []
taken_from s (e ∷ es) = record { event = e; found = found_by s e } ∷ taken_from (after s e) es

-- the events alone
abbrev pub events_of : List Taken → List Event
events_of [] = []
events_of (t ∷ ts) = t.event ∷ events_of ts

-- the events are a run from the state, and lead to the other
pub record LeadsTo (s : State) (events : List Event) (t : State) : Type 0 where
  pub runs : Runs s (taken_from s events)
  pub ends : last s (taken_from s events) ≡ t

-- the events before the index are a run that leads to the other state, and the one at the index
-- cannot happen there
pub record StopsAt (s : State) (events : List Event) (index : ℕ) (t : State) : Type 0 where
  pub below : index < length events
  pub before : LeadsTo s (take index events) t
  pub refused : IfSome (slice_get events index) (λ e. next t e ≡ None)
