-- What a call of the collector's seat tells.
-- Source: this project's.
use Rattle.std.specs.Prelude.{ℕ, ◌≡◌, ◌<◌, Bool, true, false, Some}
use Rattle.cell_words.specs.declared.colours.Colour.{Colour}
use Rattle.cell_words.specs.declared.presences.Presence.{Presence}
use Rattle.cell_words.specs.Modes.{requested_of}
use Rattle.cell_words.specs.Presence.{is_valid_presence}
use Rattle.core_machine.specs.declared.events.Event.{Event}
use Rattle.core_machine.specs.declared.events.Event.TheVariants as event
use Rattle.core_machine.specs.declared.events.Found.{Found}
use Rattle.core_machine.specs.declared.events.Found.TheVariants as finds
use Rattle.core_machine.specs.InRange.{IsShaped}
use Rattle.core_machine.specs.Next.{after, can, found_by}
use Rattle.core_machine.specs.State.{State}
use Rattle.core_machine.specs.Words.{may_answer_out}
use Rattle.dlg_core.specs.Collects.{AreOver}
use Rattle.dlg_core.specs.Consistent.{IsConsistent}
use Rattle.heap_rule.specs.declared.view.View.{View}
use Rattle.heap_rule.specs.Asks.{collector_state}
use Rattle.heap_rule.specs.Lore.{Lore}
use Rattle.heap_rule.specs.Rule.{told_collector}
use Rattle.heap_rule.specs.Steps.{Ours}
use Rattle.heap_table.specs.Joined.{IsJoined}
use Rattle.heap_table.specs.Seats.{SeatView}

-- a presence that is over was found
abbrev pub says_over : Found → Bool
says_over (finds.Presence found) = found.over
says_over _ = false

module _ {P : Type 0} where
  -- The seat is told an event with what it found. The state after it is of no account but where a
  -- presence was found, so any stands here.
  abbrev pub collector_tells : SeatView P → Event → Found → SeatView P
  collector_tells seat e found = record seat {
    me = told_collector seat.me e found (collector_state seat.me);
  }

  -- The state at an event, where the collector knows it: what the event finds is there, and every
  -- mutator is over.
  pub record IsKnown (v : View P) (s : State) (e : Event) (found : Found) : Type 0 where
    pub shaped : IsShaped s
    pub consistent : IsConsistent s
    pub over : AreOver s
    pub cells : s.cells ≡ v.shape.cells
    pub control : s.control ≡ v.control
    pub part : s.collector ≡ v.part
    pub happens : can s e ≡ true
    pub found_is : found_by s e ≡ found

  -- the seats of all mutators are joined
  abbrev pub AreJoined : View P → Type 0
  AreJoined v = (i : ℕ) → i < v.shape.mutators → IsJoined v i

  -- then a look at a presence finds that its mutator is over
  abbrev pub JoinedFound : View P → Found → Type 0
  JoinedFound v found = AreJoined v → says_over found ≡ true

  abbrev pub FindsJoined : View P → Event → Found → Type 0
  FindsJoined v (event.Poll i) found = JoinedFound v found
  FindsJoined v (event.AnswerOut i over) found = JoinedFound v found
  FindsJoined v _ found = Unit {0}

  -- An event finds what the collector knows already: what is there, where it knows the state, and
  -- where it has joined all seats a mutator that is over.
  pub record FindsKnown (v : View P) (e : Event) (found : Found) : Type 0 where
    pub known : (s : State) → v.alone ≡ Some s → IsKnown v s e found
    pub joined : FindsJoined v e found

  -- An event that finds a colour, which its call does not give.
  pub record TellsColour (old : SeatView P) (e : Event) (new : SeatView P) : Type 0 where
    pub found : Colour
    pub known : FindsKnown old.me e (finds.Colour found)
    pub told : new ≡ collector_tells old e (finds.Colour found)

  -- A look at a mutator's presence, with the state in which it happened: after it the collector
  -- may know that all are over, and then knows the state.
  pub record AtCollectorEvent (fixed : ℕ → Bool) (v : View P) (e : Event) (found : Found)
      (w : View P) : Type 0 where
    pub core : State
    pub lore : Lore
    pub ours : Ours fixed v core lore
    pub happens : can core e ≡ true
    pub found_is : found_by core e ≡ found
    pub new : w ≡ told_collector v e found (after core e)

  -- An answer for a mutator that is out. It was made where that was out, over or not as given, with
  -- the status before the requested one.
  pub record AnswersOut (fixed : ℕ → Bool) (v : View P) (i : ℕ) (over answers : Bool)
      (w : View P) : Type 0 where
    pub found : Presence
    pub valid : is_valid_presence found ≡ true
    pub known : FindsKnown v (event.AnswerOut i over) (finds.Presence found)
    pub told : AtCollectorEvent fixed v (event.AnswerOut i over) (finds.Presence found) w
    pub answered : answers ≡ may_answer_out (requested_of v.control.stage) over found
