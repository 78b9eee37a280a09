-- The words in which the invariant of the core speaks: small tests on stages, statuses, modes and
-- colours, and which cells are live.
-- Source: this project's, after the facts that Doligez and Gonthier, POPL 1994, argue from.
use Rattle.std.specs.Prelude.{ℕ, ◌≡◌, ◌+◌, ◌≤◌, Bool, true, false, not, ◌&&◌, ◌||◌, ◌==◌, nat_lt}
use Rattle.std.specs.Prelude.{List, Option, Some, None}
use Rattle.std.specs.List.{list_all}
use Rattle.cell_words.specs.declared.colours.Colour.{Colour}
use Rattle.cell_words.specs.declared.colours.Colour.TheVariants as colour
use Rattle.cell_words.specs.declared.controls.Control.{Control}
use Rattle.cell_words.specs.declared.controls.Stage.{Stage}
use Rattle.cell_words.specs.declared.controls.Stage.TheVariants as stage
use Rattle.cell_words.specs.declared.fields.Field.{Field}
use Rattle.cell_words.specs.declared.fields.Field.TheVariants as field
use Rattle.cell_words.specs.declared.presences.Status.{Status}
use Rattle.cell_words.specs.declared.presences.Status.TheVariants as status
use Rattle.core_machine.specs.declared.progress.Scanning.{Scanning}
use Rattle.core_machine.specs.declared.progress.Sweeping.{Sweeping}
use Rattle.core_machine.specs.State.{colour_in}
use Rattle.core_machine.specs.Sweep.{is_done}
use Rattle.core_machine.specs.Words.{same_stage}

-- Statuses and modes.

-- the status is the requested one, or, while a handshake goes on, the one before it
abbrev pub status_fits : Stage → Status → Bool
status_fits stage.Idle status.Async = true
status_fits stage.Idle status.Sync1 = false
status_fits stage.Idle status.Sync2 = false
status_fits stage.Sync1 status.Async = true
status_fits stage.Sync1 status.Sync1 = true
status_fits stage.Sync1 status.Sync2 = false
status_fits stage.Clear status.Async = false
status_fits stage.Clear status.Sync1 = true
status_fits stage.Clear status.Sync2 = false
status_fits stage.Sync2 status.Async = false
status_fits stage.Sync2 status.Sync1 = true
status_fits stage.Sync2 status.Sync2 = true
status_fits stage.Trace status.Async = true
status_fits stage.Trace status.Sync1 = false
status_fits stage.Trace status.Sync2 = true
status_fits stage.Sweep status.Async = true
status_fits stage.Sweep status.Sync1 = false
status_fits stage.Sweep status.Sync2 = false

-- Stages that an async mutator can have looked at, each with those that the collector can have come
-- to since, as long as this mutator does not answer.
abbrev pub async_fits : Stage → Stage → Bool
async_fits stage.Trace stage.Trace = true
async_fits stage.Trace stage.Sweep = true
async_fits stage.Trace stage.Idle = true
async_fits stage.Trace stage.Sync1 = true
async_fits stage.Sweep stage.Sweep = true
async_fits stage.Sweep stage.Idle = true
async_fits stage.Sweep stage.Sync1 = true
async_fits stage.Idle stage.Idle = true
async_fits stage.Idle stage.Sync1 = true
async_fits stage.Sync1 stage.Sync1 = true
async_fits _ _ = false

-- a mutator in sync1
abbrev pub sync1_fits : Stage → Stage → Bool
sync1_fits stage.Sync1 stage.Sync1 = true
sync1_fits stage.Sync1 stage.Clear = true
sync1_fits stage.Sync1 stage.Sync2 = true
sync1_fits stage.Clear stage.Clear = true
sync1_fits stage.Clear stage.Sync2 = true
sync1_fits stage.Sync2 stage.Sync2 = true
sync1_fits _ _ = false

-- a mutator in sync2
abbrev pub sync2_fits : Stage → Stage → Bool
sync2_fits stage.Sync2 stage.Sync2 = true
sync2_fits stage.Sync2 stage.Trace = true
sync2_fits stage.Trace stage.Trace = true
sync2_fits _ _ = false

-- a mutator with this status can have looked at the first stage, and the second is there now
abbrev pub mode_fits : Status → Stage → Stage → Bool
mode_fits status.Async looked now = async_fits looked now
mode_fits status.Sync1 looked now = sync1_fits looked now
mode_fits status.Sync2 looked now = sync2_fits looked now

-- a mode is not ahead of the control
pub record IsStale (own : Status) (mode now : Control) : Type 0 where
  pub fits : mode_fits own mode.stage now.stage ≡ true
  pub position : mode.stage ≡ stage.Sweep → now.stage ≡ stage.Sweep → mode.position ≤ now.position

abbrev pub IsStaleMode : Status → Option Control → Control → Type 0
IsStaleMode own None now = Unit {0}
IsStaleMode own (Some mode) now = IsStale own mode now

-- the marks of a mutator with this status count: in sync2, and of all while the collector traces
abbrev pub marks_count : Stage → Status → Bool
marks_count stage.Trace own = true
marks_count stage.Idle status.Async = false
marks_count stage.Idle status.Sync1 = false
marks_count stage.Idle status.Sync2 = true
marks_count stage.Sync1 status.Async = false
marks_count stage.Sync1 status.Sync1 = false
marks_count stage.Sync1 status.Sync2 = true
marks_count stage.Clear status.Async = false
marks_count stage.Clear status.Sync1 = false
marks_count stage.Clear status.Sync2 = true
marks_count stage.Sync2 status.Async = false
marks_count stage.Sync2 status.Sync1 = false
marks_count stage.Sync2 status.Sync2 = true
marks_count stage.Sweep status.Async = false
marks_count stage.Sweep status.Sync1 = false
marks_count stage.Sweep status.Sync2 = true

-- Cells.

-- the kind field is null, a record's or a box's
abbrev pub is_kind_field : Field → Bool
is_kind_field field.Null = true
is_kind_field (field.Num n) = (n == 1) || (n == 2)
is_kind_field (field.Cell c) = false

-- the sweep has still to deal with the cell
abbrev pub unswept : Control → Sweeping → ℕ → Bool
unswept control sweep c =
    same_stage control.stage stage.Sweep
    && (nat_lt control.position c || ((c == control.position) && not (is_done sweep)))

-- A cell is live where it is in use and this sweep will not free it. Every reachable cell is live,
-- and so is much that is not: live is read off the cell itself.
abbrev pub is_live : Colour → Bool → Bool
is_live colour.Blue ahead = false
is_live colour.White ahead = not ahead
is_live colour.Gray ahead = true
is_live colour.Black ahead = true

abbrev pub live : List Colour → Control → Sweeping → ℕ → Bool
live colours control sweep c = is_live (colour_in colours c) (unswept control sweep c)

-- The stages of a cycle.

-- at this stage, with clearing come to the cursor, this cell has been cleared in this cycle, and
-- tracing has not begun
abbrev pub is_cleared : Stage → ℕ → ℕ → Bool
is_cleared stage.Idle cursor c = false
is_cleared stage.Sync1 cursor c = false
is_cleared stage.Clear cursor c = nat_lt c cursor
is_cleared stage.Sync2 cursor c = true
is_cleared stage.Trace cursor c = false
is_cleared stage.Sweep cursor c = false

-- the anchor is to be marked by now
abbrev pub anchor_counts : Stage → Bool → Bool
anchor_counts stage.Idle marked = false
anchor_counts stage.Sync1 marked = false
anchor_counts stage.Clear marked = false
anchor_counts stage.Sync2 marked = marked
anchor_counts stage.Trace marked = true
anchor_counts stage.Sweep marked = false

abbrev pub all_in : List Bool → Bool
all_in answered = list_all (λ a. a) answered

-- The scan.

abbrev pub child_in : Option Scanning → Option ℕ
child_in None = None
child_in (Some scan) = scan.child

-- how many fields of the cell under scan are scanned: those before the next, and the next one
-- itself once its cell was read
abbrev pub scanned_count_at : ℕ → Option ℕ → ℕ
scanned_count_at next None = next
scanned_count_at next (Some child) = next + 1

abbrev pub scanned_count : Scanning → ℕ
scanned_count scan = scanned_count_at scan.next scan.child

-- a field of a gray cell that the collector has still to scan
abbrev pub is_open : Option Scanning → ℕ → ℕ → Bool
is_open None c f = true
is_open (Some scan) c f = not ((c == scan.cell) && nat_lt f (scanned_count scan))
