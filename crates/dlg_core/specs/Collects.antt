-- What a collector owes: garbage is freed by the end of the next cycle.
-- Source: Doligez and Leroy, POPL 1993 (a cycle misses what became garbage while it went on); this
-- project's (the statement on runs).
use Rattle.std.specs.Prelude.{ℕ, ◌≡◌, ◌≢◌, ◌<◌, ◌++◌, false, true, List, [], ◌∷◌, Some, None}
use Rattle.std.specs.List.{All}
use Rattle.cell_words.specs.declared.colours.Colour.TheVariants.{Blue}
use Rattle.cell_words.specs.declared.controls.Stage.TheVariants.{Sync1, Idle}
use Rattle.core_machine.specs.declared.events.Event.{Event}
use Rattle.core_machine.specs.declared.events.Event.TheVariants.{Post}
use Rattle.core_machine.specs.Next.{maker}
use Rattle.core_machine.specs.State.{State, colour_of, freed_of, presence_of}
use Rattle.dlg_core.specs.Reachable.{Reach, Reachable}
use Rattle.dlg_core.specs.Runs.{LeadsTo}

-- a cell that nobody can reach any more, and that is not free yet
pub record IsGarbage (s : State) (c : ℕ) : Type 0 where
  pub there : c < s.cells
  pub not_free : colour_of s c ≢ Blue
  pub unreachable : ¬ (Reachable s c)

-- the cell was freed between the two states
abbrev pub IsFreedSince : State → State → ℕ → Type 0
IsFreedSince old new c = freed_of old c < freed_of new c

-- the events are one whole cycle, among them what mutators did meanwhile
pub record IsCycle (events : List Event) : Type 0 where
  pub between : List Event
  pub whole : events ≡ Post Sync1 ∷ (between ++ Post Idle ∷ [])
  pub one : All (λ e. e ≢ Post Idle) between

-- the events are a cycle, others while no cycle goes on, and the next cycle
pub record AreTwoCycles (first between next : List Event) : Type 0 where
  pub one : IsCycle first
  pub apart : All (λ e. e ≢ Post Sync1) between
  pub other : IsCycle next

-- Wherever in the list a cycle and the next one stand whole, as far as its events can happen: what
-- was garbage right before the first has been freed right after the next.
abbrev pub Collects : State → List Event → Type 0
Collects s events =
    (before first between next after : List Event) (old new : State) (c : ℕ)
    → events ≡ before ++ (first ++ (between ++ (next ++ after))) → AreTwoCycles first between next
    → LeadsTo s before old → LeadsTo old (first ++ (between ++ next)) new
    → IsGarbage old c → IsFreedSince old new c

-- When mutators do no more.

-- every mutator is out
abbrev pub AreOut : State → Type 0
AreOut s = (i : ℕ) → (presence_of s i).inside ≡ false

-- the mutator is out for good
abbrev pub IsOver : State → ℕ → Type 0
IsOver s i = ((presence_of s i).inside ≡ false) × ((presence_of s i).over ≡ true)

abbrev pub AreOver : State → Type 0
AreOver s = (i : ℕ) → IsOver s i

-- the events are the collector's alone
abbrev pub AreCollectors : List Event → Type 0
AreCollectors events = All (λ e. maker e ≡ None) events

-- a chain of fields leads from the anchor to the cell
abbrev pub IsFromAnchor : State → ℕ → Type 0
IsFromAnchor s c = Reach s.rows [] [] c

-- every cell that is not free is reachable from the anchor
abbrev pub IsTidy : State → Type 0
IsTidy s = (c : ℕ) → colour_of s c ≢ Blue → IsFromAnchor s c

-- Where the events begin with a cycle and the next one, whole, no garbage is left after them.
-- (Mutators may have no part in either cycle: one that marks a cell behind the sweep of the first
-- may leave it gray, and the next then keeps it, though nobody holds it any more.)
abbrev pub LeavesNoGarbage : State → List Event → Type 0
LeavesNoGarbage s events =
    (first between next after : List Event) (t : State)
    → events ≡ first ++ (between ++ (next ++ after)) → AreTwoCycles first between next
    → LeadsTo s events t → IsTidy t

-- the mutator makes none of the events, and is out for good after them
abbrev pub DoesNoMore : State → List Event → ℕ → Type 0
DoesNoMore s events i = (t : State) → LeadsTo s events t
    → All (λ e. maker e ≢ Some i) events × IsOver t i
