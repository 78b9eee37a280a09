-- How long the collector waits for a mutator that claims: at most so many of its steps.
-- Source: this project's.
use Rattle.std.specs.Prelude.{ℕ, ◌≡◌, ◌≤◌, ◌+◌, Bool, false, List, [], ◌∷◌, ◌++◌}
use Rattle.std.specs.Prelude.{if◌then◌else◌}
use Rattle.cell_words.specs.Modes.{next_status_of}
use Rattle.cell_words.specs.declared.presences.Status.{Status}
use Rattle.core_machine.specs.declared.events.Event.{Event}
use Rattle.core_machine.specs.declared.events.Event.TheVariants as event
use Rattle.core_machine.specs.declared.events.Found.{Found}
use Rattle.core_machine.specs.declared.events.Found.TheVariants as finds
use Rattle.core_machine.specs.declared.events.Taken.{Taken}
use Rattle.mutator_seat.specs.Bound.{Bound}
use Rattle.mutator_seat.specs.Stretches.{asks_next}

-- what a look found asks for the status that comes next
abbrev pub asks : Status → Found → Bool
asks own (finds.Control control) = asks_next control own
asks own _ = false

abbrev pub status_on : Status → Event → Status
status_on own (event.Answer i) = next_status_of own
status_on own _ = own

-- The steps after the last point at which the mutator owed the collector no answer: an answer, or
-- a look that asks for none. Steps are tries of a cell, and looks that ask.
abbrev pub steps_on : Status → ℕ → Event → Found → ℕ
steps_on own n (event.Look i) found = if asks own found then n + 1 else 0
steps_on own n (event.Answer i) found = 0
steps_on own n (event.Claim i cell) found = n + 1
steps_on own n _ found = n

-- They are never more than 64 tries with a look before and one after, where there were n of them
-- before the first event.
abbrev pub IsPrompt : Status → ℕ → List Taken → Type 0
IsPrompt own n [] = n ≤ 66
IsPrompt own n (t ∷ ts) =
    (n ≤ 66) × IsPrompt (status_on own t.event) (steps_on own n t.event t.found) ts

-- The same of a part of a call, said forwards: these events are prompt after n steps, if what
-- follows them is so after m.
abbrev pub Leads : Status → ℕ → Status → ℕ → List Taken → Type 0
Leads own n last m events =
    (rest : List Taken) → IsPrompt last m rest → IsPrompt own n (events ++ rest)

module _ {P : Type 0} where
  -- the trail grew by events of which this holds
  pub record Grew (F : List Taken → Type 0) (old new : Bound P) : Type 0 where
    pub added : List Taken
    pub trail : new.seat.me.trail ≡ old.seat.me.trail ++ added
    pub fact : F added

  -- a call that answers in time
  abbrev pub Prompt : Bound P → Bound P → Type 0
  Prompt old new = Grew (IsPrompt old.seat.me.presence.status 0) old new

  -- a part of it, that begins after n steps and leaves at most m
  abbrev pub Paces : ℕ → ℕ → Bound P → Bound P → Type 0
  Paces n m old new =
      Grew (Leads old.seat.me.presence.status n new.seat.me.presence.status m) old new
