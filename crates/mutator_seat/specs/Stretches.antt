-- A call of several events: the stretch of the trail that it adds, and what it leaves as it was.
-- Source: this project's.
use Rattle.std.specs.Prelude.{ℕ, ◌≡◌, Bool, true, false, List, [], ◌∷◌, ◌++◌, Some, map}
use Rattle.std.specs.List.{list_all}
use Rattle.cell_words.specs.Modes.{next_status_of}
use Rattle.cell_words.specs.declared.controls.Control.{Control}
use Rattle.cell_words.specs.declared.presences.Status.{Status}
use Rattle.cell_words.specs.declared.presences.Status.TheVariants as status
use Rattle.core_machine.specs.declared.events.Event.{Event}
use Rattle.core_machine.specs.declared.events.Event.TheVariants as event
use Rattle.core_machine.specs.declared.events.Found.TheVariants as finds
use Rattle.core_machine.specs.declared.events.Taken.{Taken}
use Rattle.core_machine.specs.Words.{requests}
use Rattle.trails.specs.Claims.{look_of}
use Rattle.mutator_seat.specs.Bound.{Bound, held_cells, takes}

module _ {P : Type 0} where
  -- the mutator after these events, none of which picked a pass
  abbrev pub takes_all : Bound P → List Taken → Bound P
  takes_all m [] = m
  takes_all m (t ∷ ts) = takes_all (takes m t.event t.found) ts

  -- All but marks, the mode, the status and the trail is as before: it holds the same cells at the
  -- same places and knows the same of each, and its pass is the same.
  pub record Kept (old new : Bound P) : Type 0 where
    pub heap : new.heap ≡ old.heap
    pub table : new.seat.table ≡ old.seat.table
    pub shape : new.seat.me.shape ≡ old.seat.me.shape
    pub role : new.seat.me.role ≡ old.seat.me.role
    pub number : new.seat.me.number ≡ old.seat.me.number
    pub room : new.seat.me.room ≡ old.seat.me.room
    pub held : held_cells new ≡ held_cells old
    pub known : new.seat.me.known ≡ old.seat.me.known
    pub pass : new.seat.me.pass ≡ old.seat.me.pass
    pub pending : new.seat.me.own.pending ≡ old.seat.me.own.pending
    pub claims : new.seat.me.own.claims ≡ old.seat.me.own.claims
    pub inside : new.seat.me.presence.inside ≡ old.seat.me.presence.inside
    pub over : new.seat.me.presence.over ≡ old.seat.me.presence.over

  -- The same mutator of the same heap, in or out as it was: it holds the same cells at the same
  -- places. What it knows of them, its pass and what it has begun may be others.
  pub record SamePlaces (old new : Bound P) : Type 0 where
    pub heap : new.heap ≡ old.heap
    pub table : new.seat.table ≡ old.seat.table
    pub shape : new.seat.me.shape ≡ old.seat.me.shape
    pub role : new.seat.me.role ≡ old.seat.me.role
    pub number : new.seat.me.number ≡ old.seat.me.number
    pub room : new.seat.me.room ≡ old.seat.me.room
    pub held : held_cells new ≡ held_cells old
    pub claims : new.seat.me.own.claims ≡ old.seat.me.own.claims
    pub inside : new.seat.me.presence.inside ≡ old.seat.me.presence.inside
    pub over : new.seat.me.presence.over ≡ old.seat.me.presence.over

  -- the mutator took events of which this holds, and kept what it holds and knows
  pub record Calm (F : List Taken → Type 0) (old new : Bound P) : Type 0 where
    pub added : List Taken
    pub told : new ≡ takes_all old added
    pub kept : Kept old new
    pub fact : F added

-- What the events of a call are.

-- a mark of a held cell
abbrev pub is_mark : Event → Bool
is_mark (event.Mark i place) = true
is_mark _ = false

abbrev pub are_marks : List Taken → Type 0
are_marks events = list_all (λ (t : Taken). is_mark t.event) events ≡ true

-- they mark these places, one after the other, and do nothing else
abbrev pub MarksOf : ℕ → List ℕ → List Taken → Type 0
MarksOf number places events =
    map (λ (t : Taken). t.event) events ≡ map (λ place. event.Mark number place) places

-- what comes before an answer by this status: marks before the third of a cycle, and before the
-- first two nothing
abbrev pub AreBefore : Status → List Taken → Type 0
AreBefore status.Async events = are_marks events
AreBefore status.Sync1 events = events ≡ []
AreBefore status.Sync2 events = events ≡ []

abbrev pub answer_of : ℕ → Taken
answer_of number = record { event = event.Answer number; found = finds.Stored }

-- the control asks for the status that comes next
abbrev pub asks_next : Control → Status → Bool
asks_next control own = requests (Some control) (next_status_of own)

-- the marks that come before the answer, and then the answer
pub record Answering (number : ℕ) (own : Status) (events : List Taken) : Type 0 where
  pub marks : List Taken
  pub split : events ≡ marks ++ answer_of number ∷ []
  pub marks_are : AreBefore (next_status_of own) marks

-- the answer where one was given, and nothing else
abbrev pub AnsweringIf : Bool → ℕ → Status → List Taken → Type 0
AnsweringIf true number own events = Answering number own events
AnsweringIf false number own events = events ≡ []

-- one look, and the answer exactly where this asked for the next status
pub record LookAndAnswer (number : ℕ) (own : Status) (answered : Bool) (events : List Taken)
    : Type 0 where
  pub control : Control
  pub rest : List Taken
  pub split : events ≡ look_of number control ∷ rest
  pub asked : answered ≡ asks_next control own
  pub answer : AnsweringIf answered number own rest

-- the status after a call that answered, or did not
abbrev pub status_behind : Bool → Status → Status
status_behind true own = next_status_of own
status_behind false own = own
