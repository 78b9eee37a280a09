-- When a claim may find the heap full: what its stretch of the trail must have.
--
-- It is said twice: of marks, for the layers that speak of a whole trail; and of events, for the
-- thread that claims, whose calls are events. proofs/Claims.antt leads from the second to the
-- first. Source: this project's.
use Rattle.std.specs.Prelude.{ℕ, ◌+◌, ◌<◌, ◌≤◌, ◌≡◌, ◌==◌, ◌&&◌, ◌||◌, nat_le, Bool, true, false}
use Rattle.std.specs.Prelude.{not, List, [], ◌∷◌, ◌++◌}
use Rattle.std.specs.List.{list_any}
use Rattle.cell_words.specs.declared.colours.Colour.{Colour}
use Rattle.cell_words.specs.declared.colours.Colour.TheVariants as colour
use Rattle.cell_words.specs.declared.controls.Control.{Control}
use Rattle.cell_words.specs.declared.controls.Stage.{Stage}
use Rattle.cell_words.specs.declared.controls.Stage.TheVariants as stage
use Rattle.core_machine.specs.declared.events.Found.{Found}
use Rattle.core_machine.specs.declared.events.Found.TheVariants as finds
use Rattle.core_machine.specs.declared.events.Event.{Event}
use Rattle.core_machine.specs.declared.events.Event.TheVariants as event
use Rattle.core_machine.specs.declared.events.Taken.{Taken}
use Rattle.trails.specs.Marks.{Mark, saw, wrote, looked, tried}

-- the cycles that are ended or under way
abbrev pub begun_at : Stage → ℕ → ℕ
begun_at stage.Idle cycles = cycles
begun_at stage.Sync1 cycles = cycles + 1
begun_at stage.Clear cycles = cycles + 1
begun_at stage.Sync2 cycles = cycles + 1
begun_at stage.Trace cycles = cycles + 1
begun_at stage.Sweep cycles = cycles + 1

abbrev pub begun_of : Control → ℕ
begun_of control = begun_at control.stage control.cycles

-- A look decides that waiting is of no more use: the collector is off duty, or two whole cycles
-- began and ended since so many were begun.
abbrev pub decides : ℕ → Control → Bool
decides began control = not control.duty || nat_le (began + 2) control.cycles

-- Of marks.

abbrev pub is_used : Colour → Bool
is_used colour.Blue = false
is_used colour.White = true
is_used colour.Gray = true
is_used colour.Black = true

-- the cell was found used
abbrev pub found_used : ℕ → Mark → Bool
found_used cell (tried other found) = (other == cell) && is_used found
found_used cell (saw other field found) = false
found_used cell (wrote other field old new found) = false
found_used cell (looked control) = false

abbrev pub was_used : ℕ → List Mark → Bool
was_used cell marks = list_any (found_used cell) marks

-- the cycles begun at the first look
abbrev pub began : List Mark → ℕ
began [] = 0
began (looked control ∷ marks) = begun_of control
began (saw cell field found ∷ marks) = began marks
began (wrote cell field old new found ∷ marks) = began marks
began (tried cell found ∷ marks) = began marks

-- a look decided, and after it each cell was found used
pub record IsFull (cells : ℕ) (marks : List Mark) : Type 0 where
  pub before : List Mark
  pub control : Control
  pub after : List Mark
  pub look : marks ≡ before ++ looked control ∷ after
  pub decided : decides (began marks) control ≡ true
  pub all_used : (cell : ℕ) → cell < cells → was_used cell after ≡ true

-- Of events.

-- a mutator's look that found this
abbrev pub look_of : ℕ → Control → Taken
look_of number control = record { event = event.Look number; found = finds.Control control }

-- a claim of the other cell that found this found the cell used
abbrev pub claim_used : ℕ → ℕ → Found → Bool
claim_used cell other (finds.Colour found) = (other == cell) && is_used found
claim_used cell other _ = false

-- the event tried to claim the cell, and found it used
abbrev pub claims_used : ℕ → Event → Found → Bool
claims_used cell (event.Claim i other) found = claim_used cell other found
claims_used cell _ found = false

abbrev pub finds_used : ℕ → Taken → Bool
finds_used cell t = claims_used cell t.event t.found

-- each cell from one on and below an end was found used
abbrev pub AllUsed : ℕ → ℕ → List Taken → Type 0
AllUsed from end events =
    (cell : ℕ) → from ≤ cell → cell < end → list_any (finds_used cell) events ≡ true

-- The first look tells how many cycles were begun, a later one decides, and after that each cell
-- was found used. So many cycles were begun and ended, and so the collector was off duty or on.
pub record FindsFull (number cells : ℕ) (off_duty : Bool) (begun ended : ℕ)
    (events : List Taken) : Type 0 where
  pub first : Control
  pub between : List Taken
  pub control : Control
  pub tries : List Taken
  pub split : events ≡ look_of number first ∷ (between ++ look_of number control ∷ tries)
  pub duty : off_duty ≡ not control.duty
  pub begun_is : begun ≡ begun_of first
  pub ended_is : ended ≡ control.cycles
  pub decided : decides begun control ≡ true
  pub all_used : AllUsed 0 cells tries
