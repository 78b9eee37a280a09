-- What a line `plain` does: the plain collector takes one turn after the other, up to the one that
-- posts, or up to one that cannot be taken.
--
-- A turn is the collector's next event. Before it answers for a mutator, it takes a look at the
-- mutator's status, which is an event of its own.
-- Source: this project's.
use Rattle.std.specs.Prelude.{ℕ, ◌≡◌, Bool, true, false, List, [], Option, Some, None}
use Rattle.core_machine.specs.declared.events.Event.{Event}
use Rattle.core_machine.specs.declared.events.Event.TheVariants as event
use Rattle.core_replay.specs.Standing.{Standing, taken_by}
use Rattle.dlg_core.specs.Plain.{next_plain_of}
use Rattle.dlg_core.specs.PlainCycle.{look_before}

-- what a step of a schedule leads to
pub data Outcome : Type 0 where
  -- it was taken, and has written this
  Went : (text : List ℕ) (standing : Standing) → Outcome
  -- it could not be taken, or not to its end
  Stopped : (standing : Standing) → Outcome

-- what a turn leads to
pub data Turn : Type 0 where
  -- it is the last one
  Ends : (outcome : Outcome) → Turn
  -- another one follows
  GoesOn : (standing : Standing) → Turn

abbrev pub is_post : Event → Bool
is_post (event.Post stage) = true
is_post _ = false

abbrev pub looked : Standing → Option Event → Option Standing
looked p None = Some p
looked p (Some look) = taken_by p look

-- after an event that posts or does not, where it could happen
abbrev pub turned : Bool → Standing → Option Standing → Turn
turned posts p None = Ends (Stopped p)
turned true p (Some q) = Ends (Went [] q)
turned false p (Some q) = GoesOn q

-- the event, after the look before it
abbrev pub turn_with : Event → Standing → Option Standing → Turn
turn_with e p None = Ends (Stopped p)
turn_with e p (Some q) = turned (is_post e) q (taken_by q e)

abbrev pub turn_by : Standing → Option Event → Turn
turn_by p None = Ends (Stopped p)
turn_by p (Some e) = turn_with e p (looked p (look_before e))

-- the turn
unfoldable pub turn_of : Standing → Turn
turn_of p = turn_by p (next_plain_of p.core)

-- the turns from here on lead to the outcome
pub data PlainLeads (outcome : Outcome) : Standing → Type 0 where
  ends : {p : Standing} → turn_of p ≡ Ends outcome → PlainLeads outcome p
  goes_on : {p : Standing} (q : Standing) → turn_of p ≡ GoesOn q → PlainLeads outcome q
      → PlainLeads outcome p
