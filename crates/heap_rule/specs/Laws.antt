-- What the rule of a heap says of any moment between two steps, in words of the table alone. Each
-- law names the ledger of the table's rule (`Kept`), so two laws can be put together.
-- Source: this project's.
use Rattle.std.specs.Prelude.{ℕ, ◌⊎◌, ◌≡◌, ◌≢◌, ◌<◌, ◌≤◌, ◌++◌, Bool, true, List, [], ◌∷◌, length}
use Rattle.std.specs.Prelude.{false, slice_index, slice_index_or}
use Rattle.std.specs.Prelude.{Some, None}
use mathlib.Core.Option.{some}
use lib.ListN.{get_elem?}
use Rattle.atomic_table.specs.Table as table
use Rattle.cell_words.specs.Colour.{pack_colour_of}
use Rattle.cell_words.specs.declared.colours.Colour.TheVariants as colour
use Rattle.cell_words.specs.declared.colours.Colour.{Colour}
use Rattle.core_machine.specs.declared.events.Event.{Event}
use Rattle.core_machine.specs.declared.events.Event.TheVariants as event
use Rattle.core_machine.specs.declared.events.Found.TheVariants as finds
use Rattle.core_machine.specs.InRange.{HasWords, IsShaped}
use Rattle.core_machine.specs.Own.{no_own}
use Rattle.core_machine.specs.Places.{holds}
use Rattle.core_machine.specs.Run.{Runs, last}
use Rattle.core_machine.specs.Frames.{Knows}
use Rattle.core_machine.specs.State.{State, colour_of, greatest_cells, own_of, presence_of, room_of}
use Rattle.core_machine.specs.Table.{ColourOf, index_of, words_of}
use Rattle.core_machine.specs.Trail.{own_along, trail_of}
use Rattle.core_machine.specs.declared.events.Taken.{Taken}
use Rattle.dlg_core.specs.Collects.{AreTwoCycles, IsFreedSince, IsGarbage, IsOver}
use Rattle.dlg_core.specs.Consistent.{IsConsistent}
use Rattle.dlg_core.specs.Reachable.{Reachable}
use Rattle.dlg_core.specs.Runs.{events_of}
use Rattle.dlg_core.specs.Safe.{IsSafe}
use Rattle.dlg_core.specs.Sums.{IsBalanced, IsClaimed}
use Rattle.heap_rule.specs.Boxes.{Map, boxes_of}
use Rattle.heap_rule.specs.Facts.{Facts}
use Rattle.heap_rule.specs.Lore.{Lore, known_in}
use Rattle.heap_rule.specs.Rule.{IsAlone}
use Rattle.heap_rule.specs.declared.view.Role.TheVariants as role
use Rattle.heap_rule.specs.declared.view.Place.TheVariants as places
use Rattle.heap_rule.specs.declared.view.Share.{Share}
use Rattle.heap_rule.specs.declared.view.View.{View}
use Rattle.heap_rule.specs.Shape.{Shape, start}

-- The words are those of a core state, the last one of a run from the opening with each mutator's
-- room.
pub record IsLastOf (h : Shape) (words : List ℕ) (run : List Taken) (core : State) : Type 0 where
  pub shown : words ≡ words_of core
  pub legal : Runs (start h core.rooms) run
  pub ends : last (start h core.rooms) run ≡ core
  pub cells : core.cells ≡ h.cells
  pub mutators : core.mutators ≡ h.mutators

-- the colour word of no reachable cell is that of a free one
abbrev pub NoReachableIsFree : List ℕ → State → Type 0
NoReachableIsFree words core = (c : ℕ) → c < core.cells → Reachable core c
    → slice_index words (index_of core.mutators (ColourOf c)) ≢ pack_colour_of colour.Blue

-- a cell that is not free is one of the first rows, or was claimed in this run
abbrev pub UsedWasClaimed : Shape → List Taken → State → Type 0
UsedWasClaimed h run core = (c : ℕ) → colour_of core c ≢ colour.Blue
    → (c < length h.first) ⊎ IsClaimed run c

-- so is one that a claim of this run found not free, however long ago: it was claimed before
abbrev pub FoundUsedWasClaimed : Shape → List Taken → Type 0
FoundUsedWasClaimed h run = (before after : List Taken) (t : Taken) (i c : ℕ) (found : Colour)
    → run ≡ before ++ (t ∷ after) → t.event ≡ event.Claim i c → t.found ≡ finds.Colour found
    → found ≢ colour.Blue
    → (c < length h.first) ⊎ IsClaimed before c

-- garbage before two whole cycles of this run, wherever they stand in it, is freed by their end
abbrev pub GarbageWasFreed : Shape → List Taken → List ℕ → Type 0
GarbageWasFreed h run rooms = (before cycles after : List Taken) (first between next : List Event)
    (c : ℕ) → run ≡ before ++ (cycles ++ after) → events_of cycles ≡ first ++ (between ++ next)
    → AreTwoCycles first between next → IsGarbage (last (start h rooms) before) c
    → IsFreedSince (last (start h rooms) before) (last (start h rooms) (before ++ cycles)) c

module _ {P : Type 0} where
  -- A mutator's seat has that one's room, own part, presence, knowledge, pass and trail; the part
  -- is what the trail leaves, and what it holds is reachable.
  pub record SeatShows (core : State) (lore : Lore) (passes : List P) (run : List Taken)
      (v : View P) : Type 0 where
    pub room : room_of core v.number ≡ v.room
    pub own : own_of core v.number ≡ v.own
    -- in or out, over or not, and while it is in its status
    pub presence : Knows v.presence (presence_of core v.number)
    pub known : known_in lore.known v.number ≡ v.known
    pub pass : get_elem? passes v.number ≡ some v.pass
    pub trail : trail_of (Some v.number) run ≡ v.trail
    pub told : v.own ≡ own_along no_own v.trail
    pub reached : v.presence.inside ≡ true → (c : ℕ) → holds v.own.held c ≡ true → Reachable core c

  -- What a mutator left when its seat was joined: it is over, its own part is what its trail
  -- leaves, and its pass is the last one.
  pub record ShareShows (core : State) (passes : List P) (run : List Taken) (i : ℕ)
      (share : Share P) : Type 0 where
    pub room : room_of core i ≡ share.room
    pub own : own_of core i ≡ share.own
    pub over : IsOver core i
    pub pass : get_elem? passes i ≡ some share.pass
    pub trail : trail_of (Some i) run ≡ share.trail
    pub told : share.own ≡ own_along no_own share.trail

  -- one that was not split off: it made no event, and has its opening pass
  pub record UnsplitShows (opens : ℕ → ℕ → P) (h : Shape) (core : State) (passes : List P)
      (run : List Taken) (i : ℕ) : Type 0 where
    pub own : own_of core i ≡ no_own
    pub pass : get_elem? passes i ≡ some (opens i h.setting)
    pub trail : trail_of (Some i) run ≡ []

  -- The collector's seat has the control, the collector's part and its trail; who it found over is,
  -- and where it knows the state it is this one. It has too what the joined mutators left.
  pub record CollectorShows (opens : ℕ → ℕ → P) (h : Shape) (core : State) (passes : List P)
      (run : List Taken) (v : View P) : Type 0 where
    pub control : core.control ≡ v.control
    pub part : core.collector ≡ v.part
    pub trail : trail_of None run ≡ v.trail
    pub over : (i : ℕ) → slice_index_or v.over i false ≡ true → IsOver core i
    pub alone : IsAlone v.alone core
    pub joined : (i : ℕ) (share : Share P) → get_elem? v.places i ≡ some (places.Joined share)
        → ShareShows core passes run i share
    pub unsplit : (i : ℕ) → get_elem? v.places i ≡ some places.Unsplit
        → UnsplitShows opens h core passes run i

  -- The words show a core state, the last one of a run from the opening with each mutator's room;
  -- and what is so of that state and of that run.
  pub record ShowsRun (opens : ℕ → ℕ → P) (holding : Map → List P → Type 0) (fixed : ℕ → Bool)
      {S : Type 0} (h : Shape) (s : table.State S (View P)) : Type 0 where
    pub core : State
    pub lore : Lore
    pub passes : List P
    pub run : List Taken
    pub last_of : IsLastOf h s.words run core
    pub few : h.cells ≤ greatest_cells
    pub shaped : IsShaped core
    pub has_words : HasWords core
    pub consistent : IsConsistent core
    pub safe : IsSafe core
    pub facts : Facts fixed core lore
    -- the client's rule on the boxes and the passes
    pub kept : holding (boxes_of core lore) passes
    pub not_free : NoReachableIsFree s.words core
    -- first rows and claims are the cells that are not free and all that were freed
    pub balanced : IsBalanced (length h.first) core
    pub claimed : UsedWasClaimed h run core
    pub found_claimed : FoundUsedWasClaimed h run
    pub collected : GarbageWasFreed h run core.rooms
    pub seats : (j : ℕ) (v : View P) → get_elem? s.views j ≡ some v → v.role ≡ role.Mutator
        → SeatShows core lore passes run v
    pub collector_seats : (j : ℕ) (v : View P) → get_elem? s.views j ≡ some v
        → v.role ≡ role.Collector → CollectorShows opens h core passes run v

  -- What a heap shows that is closed with the collector's seat: the words at that moment, the run
  -- that they come from, and the part of each mutator in it.
  pub record Ended (opens : ℕ → ℕ → P) (holding : Map → List P → Type 0) (fixed : ℕ → Bool)
      (h : Shape) (S : Type 0) (words : List ℕ) (v : View P) : Type 0 where
    pub at : table.State S (View P)
    pub words_are : at.words ≡ words
    pub shows : ShowsRun opens holding fixed h at
    pub collector : CollectorShows opens h shows.core shows.passes shows.run v
    pub passes_fit : length shows.passes ≡ h.mutators
