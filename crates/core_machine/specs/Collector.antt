-- The collector's own part: what no word of the heap shows. And how each of its events changes it.
--
-- The change is a function of the part, the event and what it found, and of two things that the
-- collector knows besides: the number of cells, and the control, which it alone stores. Events of
-- mutators leave it.
-- Source: this project's.
use Rattle.std.specs.Prelude.{ℕ, ◌+◌, Bool, true, false, not, ◌&&◌, ◌==◌, List, map, Option, Some}
use Rattle.std.specs.Prelude.{None, slice_index, slice_set, if◌then◌else◌}
use Rattle.cell_words.specs.declared.colours.Colour.{Colour}
use Rattle.cell_words.specs.declared.colours.Colour.TheVariants as colour
use Rattle.cell_words.specs.declared.controls.Control.{Control}
use Rattle.cell_words.specs.declared.controls.Stage.{Stage}
use Rattle.cell_words.specs.declared.controls.Stage.TheVariants as stage
use Rattle.cell_words.specs.declared.fields.Field.{Field}
use Rattle.cell_words.specs.declared.fields.Field.TheVariants as field
use Rattle.cell_words.specs.Modes.{requested_of}
use Rattle.core_machine.specs.declared.events.Found.{Found}
use Rattle.core_machine.specs.declared.events.Found.TheVariants as finds
use Rattle.core_machine.specs.declared.events.Event.{Event}
use Rattle.core_machine.specs.declared.events.Event.TheVariants as event
use Rattle.core_machine.specs.declared.progress.Scanning.{Scanning}
use Rattle.core_machine.specs.declared.progress.Sweeping.{Sweeping}
use Rattle.core_machine.specs.declared.progress.Sweeping.TheVariants as sweeping
use Rattle.core_machine.specs.Words.{same_status, may_answer_out}

pub record Collector : Type 0 where
  -- by mutator: it has answered this handshake, or was answered for
  pub answered : List Bool
  -- the anchor is gray, or was found not white, since the stage Sync2 began
  pub anchor_marked : Bool
  -- the cell that clearing, or this pass of tracing, has come to
  pub cursor : ℕ
  -- this pass of tracing has met no gray cell
  pub clean : Bool
  pub scan : Option Scanning
  -- the sweep of the cell at the position
  pub sweep : Sweeping
  -- by cell: how often it was freed
  pub times_freed : List ℕ
  -- how many cells were freed in all
  pub number_freed : ℕ

-- Changes.

abbrev pub nobody_answered : List Bool → List Bool
nobody_answered answered = map (λ _. false) answered

-- on going to a stage
abbrev pub posted : Collector → Stage → Collector
posted c stage.Idle = c
posted c stage.Sync1 = record c { answered = nobody_answered c.answered }
posted c stage.Clear = record c { cursor = 0 }
posted c stage.Sync2 = record c { answered = nobody_answered c.answered; anchor_marked = false }
posted c stage.Trace = record c { answered = nobody_answered c.answered; cursor = 0; clean = true }
posted c stage.Sweep = record c { sweep = sweeping.Fresh }

-- mutator i has answered, where the test is true
abbrev pub answered_by : Collector → ℕ → Bool → Collector
answered_by c i true = record c { answered = slice_set c.answered i true }
answered_by c i false = c

-- a pass that met gray and came to the end starts over
abbrev pub restarted : Collector → ℕ → Collector
restarted c cells = if
    (c.cursor == cells) && not c.clean then record c { cursor = 0; clean = true } else c

-- the pass goes on where this is the cell that it has come to
abbrev pub passed : Collector → ℕ → Collector
passed c cell = if cell == c.cursor then record c { cursor = c.cursor + 1 } else c

abbrev pub scanning_from : ℕ → Scanning
scanning_from cell = record { cell = cell; next = 0; child = None }

-- a gray cell is scanned, and this pass is not the last one
abbrev pub seen : Collector → ℕ → Colour → Collector
seen c cell colour.Blue = passed c cell
seen c cell colour.White = passed c cell
seen c cell colour.Gray = record c { clean = false; scan = Some (scanning_from cell) }
seen c cell colour.Black = passed c cell

-- the scan has loaded a field: the cell in it is the child, and without one the scan goes on
abbrev pub scanned : Scanning → Field → Scanning
scanned s field.Null = record s { next = s.next + 1 }
scanned s (field.Num n) = record s { next = s.next + 1 }
scanned s (field.Cell c) = record s { child = Some c }

-- the child is shaded
abbrev pub scan_shaded : Scanning → Scanning
scan_shaded s = record s { next = s.next + 1; child = None }

abbrev pub on_scan : (Scanning → Scanning) → Option Scanning → Option Scanning
on_scan change None = None
on_scan change (Some s) = Some (change s)

-- what is to be done with a cell of a colour
abbrev pub sweep_of : Colour → Sweeping
sweep_of colour.Blue = sweeping.Done
sweep_of colour.White = sweeping.Wiping 0
sweep_of colour.Gray = sweeping.Fresh
sweep_of colour.Black = sweeping.BlackFound

-- one field more is null
abbrev pub wiped : Sweeping → Sweeping
wiped sweeping.Fresh = sweeping.Fresh
wiped (sweeping.Wiping k) = sweeping.Wiping (k + 1)
wiped sweeping.BlackFound = sweeping.BlackFound
wiped sweeping.Done = sweeping.Done

abbrev pub freed : Collector → ℕ → Collector
freed c cell = record c {
  sweep = sweeping.Done;
  times_freed = slice_set c.times_freed cell (slice_index c.times_freed cell + 1);
  number_freed = c.number_freed + 1;
}

-- Changes by what an event found. What it cannot find changes nothing.

abbrev pub polled_by : Collector → Control → ℕ → Found → Collector
polled_by c control i (finds.Presence found) =
    answered_by c i (same_status found.status (requested_of control.stage))
polled_by c control i _ = c

abbrev pub answered_out_by : Collector → Control → ℕ → Bool → Found → Collector
answered_out_by c control i over (finds.Presence found) =
    answered_by c i (may_answer_out (requested_of control.stage) over found)
answered_out_by c control i over _ = c

abbrev pub seen_by : Collector → ℕ → ℕ → Found → Collector
seen_by c cells cell (finds.Colour found) = seen (restarted c cells) cell found
seen_by c cells cell _ = c

abbrev pub scanned_by : Collector → Found → Collector
scanned_by c (finds.Field found) = record c { scan = on_scan (λ s. scanned s found) c.scan }
scanned_by c _ = c

abbrev pub sweep_looked_by : Collector → Found → Collector
sweep_looked_by c (finds.Colour found) = record c { sweep = sweep_of found }
sweep_looked_by c _ = c

-- what an event of the collector leaves of its own part, in a heap of so many cells
abbrev pub collector_after : ℕ → Control → Collector → Event → Found → Collector
collector_after cells control c (event.Post target) found = posted c target
collector_after cells control c (event.Poll i) found = polled_by c control i found
collector_after cells control c
    (event.AnswerOut i over) found = answered_out_by c control i over found
collector_after cells control c event.ClearCell found = record c { cursor = c.cursor + 1 }
collector_after cells control c event.Anchor found = record c { anchor_marked = true }
collector_after cells control c (event.See cell) found = seen_by c cells cell found
collector_after cells control c event.Scan found = scanned_by c found
collector_after cells control c event.Shade found = record c { scan = on_scan scan_shaded c.scan }
collector_after cells control c event.Blacken found = record c { scan = None }
collector_after cells control c event.SweepLook found = sweep_looked_by c found
collector_after cells control c event.Wipe found = record c { sweep = wiped c.sweep }
collector_after cells control c event.Free found = freed c control.position
collector_after cells control c event.Whiten found = record c { sweep = sweeping.Done }
collector_after cells control c event.Advance found = record c { sweep = sweeping.Fresh }
collector_after cells control c _ found = c

-- What an event of the collector leaves of the control.

abbrev pub posted_control : Control → Stage → Control
posted_control control stage.Idle = record control
    { stage = stage.Idle; position = 0; cycles = control.cycles + 1 }
posted_control control stage.Sync1 = record control { stage = stage.Sync1 }
posted_control control stage.Clear = record control { stage = stage.Clear }
posted_control control stage.Sync2 = record control { stage = stage.Sync2 }
posted_control control stage.Trace = record control { stage = stage.Trace }
posted_control control stage.Sweep = record control { stage = stage.Sweep; position = 0 }

abbrev pub control_after : Control → Event → Control
control_after control (event.Post target) = posted_control control target
control_after control (event.Duty on) = record control { duty = on }
control_after control event.Advance = record control { position = control.position + 1 }
control_after control _ = control
