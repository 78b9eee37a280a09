-- The rule of a heap in an atomic table: what holds of its words and of the views of all seats
-- between any two steps, whatever threads the seats are in.
--
-- The words show a core state, which is the last one of a run from the opening. Each seat knows its
-- maker's part of that state, and its trail is the maker's events of that run. The facts on lore
-- stand, and the client's rule stands on the boxes and the passes.
-- Source: this project's.
use Rattle.std.specs.Prelude.{ℕ, ◌≡◌, ◌<◌, ◌++◌, Bool, true, List, [], ◌∷◌, length, slice_set}
use Rattle.std.specs.Prelude.{Option, Some, None, false, slice_index_or}
use Rattle.std.specs.List.{list_all}
use mathlib.Core.Option.{some}
use lib.ListN.{get_elem?}
use Rattle.atomic_table.specs.Table as table
use Rattle.core_machine.specs.declared.events.Event.{Event}
use Rattle.core_machine.specs.declared.events.Event.TheVariants as event
use Rattle.core_machine.specs.declared.events.Found.{Found}
use Rattle.core_machine.specs.declared.events.Found.TheVariants as finds
use Rattle.core_machine.specs.declared.events.Taken.{Taken}
use Rattle.core_machine.specs.Collector.{collector_after, control_after}
use Rattle.core_machine.specs.Frames.{Knows}
use Rattle.core_machine.specs.Next.{found_by, after}
use Rattle.core_machine.specs.Own.{no_own, own_after, presence_after}
use Rattle.core_machine.specs.Run.{Runs, last}
use Rattle.core_machine.specs.State.{State, opening_presence, own_of, presence_of, room_of}
use Rattle.core_machine.specs.Table.{words_of}
use Rattle.core_machine.specs.Trail.{trail_of}
use Rattle.dlg_core.specs.Collects.{AreOver, IsOver}
use Rattle.heap_rule.specs.declared.known.Learned.{Learned}
use Rattle.heap_rule.specs.declared.view.Place.{Place}
use Rattle.heap_rule.specs.declared.view.Place.TheVariants as places
use Rattle.heap_rule.specs.declared.view.Role.{Role}
use Rattle.heap_rule.specs.declared.view.Role.TheVariants as role
use Rattle.heap_rule.specs.declared.view.Share.{Share}
use Rattle.heap_rule.specs.declared.view.View.{View}
use Rattle.heap_rule.specs.Boxes.{Map, boxes_of}
use Rattle.heap_rule.specs.Facts.{Facts}
use Rattle.heap_rule.specs.Lore.{Lore, known_in, knows_after, lore_after}
use Rattle.heap_rule.specs.Shape.{Shape, IsSound, start}

-- What the words and views of a table show together.
pub record Ledger (P : Type 0) : Type 0 where
  pub core : State
  pub lore : Lore
  pub run : List Taken
  -- by mutator: where its part is, and which seat has it
  pub places : List (Place P)
  pub owner : ℕ → ℕ
  -- the collector's seat
  pub collector : ℕ
  -- by mutator
  pub passes : List P

-- an event with what it found
abbrev pub took : Event → Found → Taken
took e found = record { event = e; found = found }

-- What the collector learns of mutators that are over. A mutator that is over does no more, so who
-- found them all over knows the state, and its own events alone change it.

-- which mutators were found over
abbrev pub over_met : List Bool → ℕ → Bool → List Bool
over_met over i true = slice_set over i true
over_met over i false = over

abbrev pub over_by : List Bool → ℕ → Found → List Bool
over_by over i (finds.Presence found) = over_met over i found.over
over_by over i _ = over

abbrev pub over_found : List Bool → Event → Found → List Bool
over_found over (event.Poll i) found = over_by over i found
over_found over (event.AnswerOut i flag) found = over_by over i found
over_found over _ found = over

-- the state after an event, where it was known before, and where all were found over
abbrev pub alone_on : Option State → Event → Option State
alone_on None e = None
alone_on (Some s) e = Some (after s e)

abbrev pub alone_met : Option State → Bool → Event → State → Option State
alone_met None false e now = None
alone_met None true e now = Some now
alone_met (Some s) all e now = Some (after s e)

abbrev pub alone_after : Option State → List Bool → Event → State → Option State
alone_after alone over (event.Poll i) now =
    alone_met alone (list_all (λ found. found) over) (event.Poll i) now
alone_after alone over (event.AnswerOut i flag) now =
    alone_met alone (list_all (λ found. found) over) (event.AnswerOut i flag) now
alone_after alone over e now = alone_on alone e

-- what is known is the state, and every mutator is over
abbrev pub IsAlone : Option State → State → Type 0
IsAlone None core = Unit {0}
IsAlone (Some s) core = (s ≡ core) × AreOver core

module _ {P : Type 0} where
  -- of the heap alone, whoever has a seat
  pub record Stands (holds : Map → List P → Type 0) (fixed : ℕ
      → Bool) (h : Shape) (l : Ledger P) : Type 0 where
    pub sound : IsSound h
    pub cells : l.core.cells ≡ h.cells
    pub mutators : l.core.mutators ≡ h.mutators
    pub legal : Runs (start h l.core.rooms) l.run
    pub core_is : last (start h l.core.rooms) l.run ≡ l.core
    pub facts : Facts fixed l.core l.lore
    pub passes_fit : length l.passes ≡ h.mutators
    pub kept : holds (boxes_of l.core l.lore) l.passes

  -- a mutator's part is what this share says
  pub record ShareFits (l : Ledger P) (i : ℕ) (share : Share P) : Type 0 where
    pub room : room_of l.core i ≡ share.room
    pub own : own_of l.core i ≡ share.own
    pub presence : Knows share.presence (presence_of l.core i)
    pub known : known_in l.lore.known i ≡ share.known
    pub pass : get_elem? l.passes i ≡ some share.pass
    pub trail : trail_of (Some i) l.run ≡ share.trail

  -- of a mutator that was not split off: it has its opening part, and room for one place
  abbrev pub unsplit : (ℕ → ℕ → P) → Shape → ℕ → Share P
  unsplit opens h i = record {
    room = 1;
    own = no_own;
    presence = opening_presence;
    known = [];
    pass = opens i h.setting;
    trail = [];
  }

  -- what a mutator's view says of its part
  abbrev pub share_of : View P → Share P
  share_of v = record {
    room = v.room;
    own = v.own;
    presence = v.presence;
    known = v.known;
    pass = v.pass;
    trail = v.trail;
  }

  abbrev pub PlaceFits : (ℕ → ℕ → P) → Shape → Ledger P → ℕ → Place P → Type 0
  PlaceFits opens h l i places.Unsplit = ShareFits l i (unsplit opens h i)
  PlaceFits opens h l i places.Away = Unit {0}
  PlaceFits opens h l i (places.Joined share) = ShareFits l i share × (share.presence.over ≡ true)

  -- a mutator's seat: its part is away with it
  pub record MutatorFits (h : Shape) (l : Ledger P) (seat : ℕ) (v : View P) : Type 0 where
    pub shape : v.shape ≡ h
    pub number : v.number < h.mutators
    pub place : get_elem? l.places v.number ≡ some places.Away
    pub owner : l.owner v.number ≡ seat
    pub share : ShareFits l v.number (share_of v)

  pub record CollectorFits (h : Shape) (l : Ledger P) (seat : ℕ) (v : View P) : Type 0 where
    pub shape : v.shape ≡ h
    pub seat_is : l.collector ≡ seat
    pub places : l.places ≡ v.places
    pub control : l.core.control ≡ v.control
    pub part : l.core.collector ≡ v.part
    pub over_fit : length v.over ≡ h.mutators
    pub over_so : (i : ℕ) → slice_index_or v.over i false ≡ true → IsOver l.core i
    pub alone : IsAlone v.alone l.core
    pub trail : trail_of None l.run ≡ v.trail

  abbrev pub SeatFits : Shape → Ledger P → ℕ → View P → Role → Type 0
  SeatFits h l seat v role.Mutator = MutatorFits h l seat v
  SeatFits h l seat v role.Collector = CollectorFits h l seat v
  SeatFits h l seat v role.Spent = Unit {0}

  pub record Kept (opens : ℕ → ℕ → P) (holds : Map → List P → Type 0) (fixed : ℕ
      → Bool) (h : Shape) {S : Type 0}
      (s : table.State S (View P)) : Type 0 where
    pub ledger : Ledger P
    pub stands : Stands holds fixed h ledger
    pub words_are : s.words ≡ words_of ledger.core
    pub each_place : (i : ℕ) (p : Place P) → get_elem? ledger.places i ≡ some p
        → PlaceFits opens h ledger i p
    pub each_seat : (j : ℕ) (v : View P) → get_elem? s.views j ≡ some v
        → SeatFits h ledger j v v.role

  -- What a step tells the seat that makes it.

  -- a mutator's: with what a read told, and the pass that was picked
  abbrev pub told : View P → Event → Found → Learned → P → View P
  told v e found tells pass = record v {
    own = own_after v.own e found;
    presence = presence_after v.presence e found;
    known = knows_after v.own v.known e found tells;
    pass = pass;
    trail = v.trail ++ took e found ∷ [];
  }

  -- the collector's, with the state after the event, which it learns where all were found over
  abbrev pub told_collector : View P → Event → Found → State → View P
  told_collector v e found now = record v {
    control = control_after v.control e;
    part = collector_after v.shape.cells v.control v.part e found;
    over = over_found v.over e found;
    alone = alone_after v.alone (over_found v.over e found) e now;
    trail = v.trail ++ took e found ∷ [];
  }

  -- The ledger after an event: of mutator i with its pass, or of the collector.
  abbrev pub behind : Ledger P → Event → List P → Ledger P
  behind l e passes = record l {
    core = after l.core e;
    lore = lore_after l.core l.lore e;
    run = l.run ++ took e (found_by l.core e) ∷ [];
    passes = passes;
  }
