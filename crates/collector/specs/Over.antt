-- Which mutators a stretch of events found over.
-- Source: this project's.
use Rattle.std.specs.Prelude.{ℕ, ◌≡◌, ◌≤◌, ◌<◌, ◌==◌, ◌&&◌, Bool, true, false, List, IsTrue}
use Rattle.std.specs.List.{list_all, list_any}
use Rattle.cell_heap.specs.Telling.{says_over}
use Rattle.core_machine.specs.declared.events.Event.{Event}
use Rattle.core_machine.specs.declared.events.Event.TheVariants as event
use Rattle.core_machine.specs.declared.events.Found.{Found}
use Rattle.core_machine.specs.declared.events.Taken.{Taken}
use Rattle.collector.specs.Bound.{Bound}
use Rattle.collector.specs.Counting.{Counts, nothing}
use Rattle.collector.specs.Replay.{work_of}
use Rattle.collector.specs.Stretches.{Stretch}
use Rattle.collector.specs.declared.report.CycleReport.{CycleReport}

-- a Poll or an AnswerOut of this mutator found it over
abbrev pub finds_over : ℕ → Event → Found → Bool
finds_over m (event.Poll i) found = (i == m) && says_over found
finds_over m (event.AnswerOut i over) found = (i == m) && says_over found
finds_over m _ found = false

abbrev pub was_over : ℕ → List Taken → Bool
was_over m events = list_any (λ (t : Taken). finds_over m t.event t.found) events

-- each mutator from one number on and below another was found over
abbrev pub AllOver : ℕ → ℕ → List Taken → Type 0
AllOver from end events = (m : ℕ) → from ≤ m → m < end → was_over m events ≡ true

-- where the event is a Poll or an AnswerOut, it found its mutator over
abbrev pub meets_over : Event → Found → Bool
meets_over (event.Poll i) found = says_over found
meets_over (event.AnswerOut i over) found = says_over found
meets_over _ found = true

-- each Poll and each AnswerOut among the events found its mutator over
abbrev pub MeetOver : List Taken → Type 0
MeetOver events = list_all (λ (t : Taken). meets_over t.event t.found) events ≡ true

module _ {P : Type 0} where
  -- the collector took events that amount to this, and found these over where the flag says so
  abbrev pub HearsBeside : CycleReport → Bool → ℕ → ℕ → Bound P → Bound P → Type 0
  HearsBeside report over from end old new =
      Stretch (λ (events : List Taken). Counts (work_of old) (work_of new) report events
      × (IsTrue over → AllOver from end events)) old new

  -- events that count for nothing
  abbrev pub Hears : Bool → ℕ → ℕ → Bound P → Bound P → Type 0
  Hears over from end old new = HearsBeside nothing over from end old new
