-- How many events the plain collector has at most to take up to the next Post(Idle), where every
-- mutator is out: a number that each event makes less.
--
-- A cell pays for a pass over all cells, and for its own scan, when it is met gray. Between two of
-- them is the rest of a pass.
-- Source: this project's.
use Rattle.std.specs.Prelude.{ℕ, ◌≡◌, ◌+◌, ◌-◌, ◌*◌, ◌<◌, ◌≤◌, Bool, true, false, not, List, Option}
use Rattle.std.specs.Prelude.{Some, None}
use Rattle.std.specs.List.{count_by}
use Rattle.cell_words.specs.declared.colours.Colour.{Colour}
use Rattle.cell_words.specs.declared.colours.Colour.TheVariants as colour
use Rattle.cell_words.specs.declared.controls.Stage.{Stage}
use Rattle.cell_words.specs.declared.controls.Stage.TheVariants as stage
use Rattle.cell_words.specs.declared.presences.Presence.{Presence}
use Rattle.core_machine.specs.State.{State, greatest_cycles, presence_in}
use Rattle.core_machine.specs.declared.progress.Scanning.{Scanning}
use Rattle.core_machine.specs.declared.progress.Sweeping.{Sweeping}
use Rattle.core_machine.specs.declared.progress.Sweeping.TheVariants as sweeping

-- how many mutators have not answered
abbrev pub unanswered : List Bool → ℕ
unanswered answered = count_by not answered

-- tracing may still blacken the cell
abbrev pub is_left : Colour → Bool
is_left colour.Blue = false
is_left colour.White = true
is_left colour.Gray = true
is_left colour.Black = false

abbrev pub cells_left : List Colour → ℕ
cells_left colours = count_by is_left colours

-- a stage from its beginning to the end of the cycle

abbrev pub whole_sweep : ℕ → ℕ
whole_sweep cells = 9 * cells + 1

abbrev pub whole_trace : ℕ → ℕ → ℕ
whole_trace cells mutators =
    2 * mutators + (cells * (cells + 12) + cells) + 1 + whole_sweep cells

abbrev pub whole_sync2 : ℕ → ℕ → ℕ
whole_sync2 cells mutators = 2 * mutators + 2 + whole_trace cells mutators

abbrev pub whole_clear : ℕ → ℕ → ℕ
whole_clear cells mutators = cells + 1 + whole_sync2 cells mutators

abbrev pub whole_cycle : ℕ → ℕ → ℕ
whole_cycle cells mutators = 1 + (2 * mutators + 1 + whole_clear cells mutators)

-- the anchor
abbrev pub anchor_left : Bool → ℕ
anchor_left true = 0
anchor_left false = 1

-- the fields of a cell under scan, two events each, and Blacken
abbrev pub scan_left : ℕ → Option ℕ → ℕ
scan_left next None = 2 * (5 - next) + 1
scan_left next (Some child) = 2 * (5 - next)

-- tracing, with so many cells that it may still blacken
abbrev pub trace_left : ℕ → ℕ → Bool → ℕ → Option Scanning → ℕ
trace_left cells k true cursor None = k * (cells + 12) + (cells - cursor)
trace_left cells k false cursor None = k * (cells + 12) + cells + (cells - cursor)
trace_left cells k clean cursor (Some scan) =
    (k - 1) * (cells + 12) + cells + (cells - cursor) + scan_left scan.next scan.child

-- how many of a cell's nine events in a sweep are done
abbrev pub place_done : Sweeping → ℕ
place_done sweeping.Fresh = 0
place_done (sweeping.Wiping k) = k + 1
place_done sweeping.BlackFound = 7
place_done sweeping.Done = 8

abbrev pub stage_left : State → Stage → ℕ
stage_left s stage.Idle = whole_cycle s.cells s.mutators
stage_left s stage.Sync1 =
    2 * unanswered s.collector.answered + 1 + whole_clear s.cells s.mutators
stage_left s stage.Clear = (s.cells - s.collector.cursor) + 1 + whole_sync2 s.cells s.mutators
stage_left s stage.Sync2 =
    2 * unanswered s.collector.answered + anchor_left s.collector.anchor_marked + 1
    + whole_trace s.cells s.mutators
stage_left s stage.Trace =
    2 * unanswered s.collector.answered
    + trace_left s.cells (cells_left s.colours) s.collector.clean s.collector.cursor
    s.collector.scan
    + 1 + whole_sweep s.cells
stage_left s stage.Sweep =
    (9 * (s.cells - s.control.position) - place_done s.collector.sweep) + 1

unfoldable pub left : State → ℕ
left s = stage_left s s.control.stage

-- after an event that ends the cycle nothing is left
abbrev pub left_behind : Bool → State → ℕ
left_behind true s = 0
left_behind false s = left s

-- What a cycle keeps on its way, besides the invariant.

-- every mutator is out, also one that there is not
abbrev pub AreOut : List Presence → Type 0
AreOut presences = (i : ℕ) → (presence_in presences i).inside ≡ false

-- no stage has passed the last cell
abbrev pub CursorFits : Stage → ℕ → ℕ → Type 0
CursorFits stage.Idle cursor cells = Unit {0}
CursorFits stage.Sync1 cursor cells = Unit {0}
CursorFits stage.Clear cursor cells = cursor ≤ cells
CursorFits stage.Sync2 cursor cells = Unit {0}
CursorFits stage.Trace cursor cells = cursor ≤ cells
CursorFits stage.Sweep cursor cells = Unit {0}

-- where no cycle goes on, one may begin
abbrev pub MayBegin : Stage → ℕ → Type 0
MayBegin stage.Idle cycles = cycles < greatest_cycles
MayBegin stage.Sync1 cycles = Unit {0}
MayBegin stage.Clear cycles = Unit {0}
MayBegin stage.Sync2 cycles = Unit {0}
MayBegin stage.Trace cycles = Unit {0}
MayBegin stage.Sweep cycles = Unit {0}

pub record IsOnItsWay (s : State) : Type 0 where
  pub out : AreOut s.presences
  pub cursor : CursorFits s.control.stage s.collector.cursor s.cells
  pub begins : MayBegin s.control.stage s.control.cycles
