-- The set that is followed: the cells that were garbage in an old state and were not freed since.
-- It is a set and not one cell, since what keeps a cell unreachable is that no cell outside names
-- it.
--
-- What holds of the set, by the cycles that have ended since and by the stage:
--
-- always                 apart: no root is in it, no cell outside names a cell of it, none of it is
--                        free
-- in the first sweep     swept: each cell is white, or it is black and still to be swept
-- until the next sweep   white: each cell is white; no_child: none of it is the child
-- in the next sweep      ahead: each cell is still to be swept
-- after it               gone: there is none
--
-- A cell that is gray at the start, or that a gray one names, survives the first tracing: so one
-- cycle is not enough. In the next one every gray cell is outside, and nothing outside leads in.
use Rattle.std.proofs.Common.{◌≡◌, ◌≢◌, ◌⊎◌, ℕ, true, List, Option, Some, ◌+◌, ◌≤◌, slice_index}
use Rattle.cell_words.specs.declared.colours.Colour.{Colour}
use Rattle.cell_words.specs.declared.colours.Colour.TheVariants as colour
use Rattle.cell_words.specs.declared.controls.Control.{Control}
use Rattle.cell_words.specs.declared.controls.Stage.TheVariants as stage
use Rattle.cell_words.specs.declared.fields.Field.{Field}
use Rattle.cell_words.specs.declared.fields.Field.TheVariants as field
use Rattle.core_machine.specs.declared.progress.Scanning.{Scanning}
use Rattle.core_machine.specs.declared.progress.Sweeping.{Sweeping}
use Rattle.core_machine.specs.Own.{Own}
use Rattle.core_machine.specs.Places.{holds}
use Rattle.core_machine.specs.State.{State, colour_in, field_in, own_in, freed_of}
use Rattle.dlg_core.specs.Collects.{IsGarbage}
use Rattle.dlg_core.specs.Facts.{unswept, child_in}

-- a cell of the garbage of the old state that was not freed since
pub record IsLeft (old : State) (times_freed : List ℕ) (c : ℕ) : Type 0 where
  pub garbage : IsGarbage old c
  pub unfreed : slice_index times_freed c ≡ freed_of old c

pub record IsApart (set : ℕ → Type 0) (rows : List (List Field)) (owns : List Own)
    (colours : List Colour) : Type 0 where
  pub anchor : set 0 → ⊥
  pub held : (i c : ℕ) → holds (own_in owns i).held c ≡ true → set c → ⊥
  pub named : (c d f : ℕ) → field_in rows c f ≡ field.Cell d → set d → set c
  pub not_blue : (c : ℕ) → set c → colour_in colours c ≢ colour.Blue

-- where so many cycles had ended at the start
pub record IsOnItsWay (set : ℕ → Type 0) (start : ℕ) (colours : List Colour) (control : Control)
    (sweep : Sweeping) (scan : Option Scanning) : Type 0 where
  pub swept : control.cycles ≡ start → control.stage ≡ stage.Sweep → (c : ℕ) → set c
      → (colour_in colours c ≡ colour.White)
      ⊎ ((colour_in colours c ≡ colour.Black) × (unswept control sweep c ≡ true))
  pub white : control.cycles ≡ start + 1 → (c : ℕ) → set c → colour_in colours c ≡ colour.White
  pub no_child : control.cycles ≡ start + 1 → (c : ℕ) → child_in scan ≡ Some c → set c → ⊥
  pub ahead : control.cycles ≡ start + 1 → control.stage ≡ stage.Sweep → (c : ℕ) → set c
      → unswept control sweep c ≡ true
  pub gone : start + 2 ≤ control.cycles → (c : ℕ) → set c → ⊥

pub record Follows (old : State) (colours : List Colour) (rows : List (List Field))
    (owns : List Own) (control : Control) (sweep : Sweeping) (scan : Option Scanning)
    (times_freed : List ℕ) : Type 0 where
  pub grown : (c : ℕ) → freed_of old c ≤ slice_index times_freed c
  pub apart : IsApart (IsLeft old times_freed) rows owns colours
  pub way : IsOnItsWay (IsLeft old times_freed) old.control.cycles colours control sweep scan

abbrev pub IsFollowed : State → State → Type 0
IsFollowed old s = Follows old s.colours s.rows s.owns s.control s.collector.sweep s.collector.scan
    s.collector.times_freed

-- the set, in a state
abbrev pub IsLeftIn : State → State → ℕ → Type 0
IsLeftIn old s c = IsLeft old s.collector.times_freed c
