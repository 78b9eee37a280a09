-- The plain collector: the one collector event that a collector which does nothing twice takes
-- next. It goes over all cells and all mutators in the order of their numbers.
-- Source: this project's.
use Rattle.std.specs.Prelude.{ℕ, ◌+◌, Bool, true, false, ◌==◌, nat_lt, List, [], ◌∷◌, Option, Some}
use Rattle.std.specs.Prelude.{None, if◌then◌else◌}
use Rattle.cell_words.specs.declared.controls.Stage.{Stage}
use Rattle.cell_words.specs.declared.controls.Stage.TheVariants as stage
use Rattle.core_machine.specs.declared.events.Event.{Event}
use Rattle.core_machine.specs.declared.events.Event.TheVariants as event
use Rattle.core_machine.specs.declared.progress.Scanning.{Scanning}
use Rattle.core_machine.specs.declared.progress.Sweeping.{Sweeping}
use Rattle.core_machine.specs.declared.progress.Sweeping.TheVariants as sweeping
use Rattle.core_machine.specs.Collector.{Collector}
use Rattle.core_machine.specs.Handshakes.{wanted_of}
use Rattle.core_machine.specs.State.{State, presence_of}
use Rattle.core_machine.specs.Words.{same_status}

-- the least mutator that has not answered, of those from i on
abbrev pub least_unanswered : ℕ → List Bool → Option ℕ
least_unanswered i [] = None
least_unanswered i (true ∷ answered) = least_unanswered (i + 1) answered
least_unanswered i (false ∷ answered) = Some i

abbrev pub first_unanswered : Collector → Option ℕ
first_unanswered c = least_unanswered 0 c.answered

-- what a handshake needs from a mutator that has not answered: a look where it has the status
-- already, an answer for it where it is out, and otherwise nothing that the collector could do
abbrev pub plain_handshake : State → ℕ → Option Event
plain_handshake s i =
    if same_status (presence_of s i).status (wanted_of s) then Some (event.Poll i)
    else (if (presence_of s i).inside then None else Some
    (event.AnswerOut i (presence_of s i).over))

-- the next event of a scan: its child's, or the next field's, or the end
abbrev pub plain_scan : Scanning → Option ℕ → Event
plain_scan scan None = if nat_lt scan.next 5 then event.Scan else event.Blacken
plain_scan scan (Some child) = event.Shade

-- the next event of a pass of tracing: the scan's if there is a scan, otherwise the next cell's
abbrev pub plain_trace : Collector → ℕ → Option Scanning → Event
plain_trace c cells None =
    if c.cursor == cells then (if c.clean then event.Post stage.Sweep else event.See 0)
    else event.See c.cursor
plain_trace c cells (Some scan) = plain_scan scan scan.child

-- the next event of the work on the cell at the position
abbrev pub plain_sweep : Sweeping → Event
plain_sweep sweeping.Fresh = event.SweepLook
plain_sweep (sweeping.Wiping k) = if nat_lt k 6 then event.Wipe else event.Free
plain_sweep sweeping.BlackFound = event.Whiten
plain_sweep sweeping.Done = event.Advance

-- the work of a stage, where no answer is waited for
abbrev pub plain_work : State → Stage → Event
plain_work s stage.Idle = event.Post stage.Sync1
plain_work s stage.Sync1 = event.Post stage.Clear
plain_work s stage.Clear =
    if nat_lt s.collector.cursor s.cells then event.ClearCell else event.Post stage.Sync2
plain_work s stage.Sync2 = if s.collector.anchor_marked then event.Post stage.Trace else
    event.Anchor
plain_work s stage.Trace = plain_trace s.collector s.cells s.collector.scan
plain_work s stage.Sweep =
    if s.control.position == s.cells then event.Post stage.Idle else plain_sweep s.collector.sweep

-- a handshake waits for the least mutator that has not answered, and goes on when there is none
abbrev pub plain_waiting : State → Option ℕ → Option Event
plain_waiting s None = Some (plain_work s s.control.stage)
plain_waiting s (Some i) = plain_handshake s i

abbrev pub plain_at : State → Stage → Option Event
plain_at s stage.Idle = Some (plain_work s stage.Idle)
plain_at s stage.Sync1 = plain_waiting s (first_unanswered s.collector)
plain_at s stage.Clear = Some (plain_work s stage.Clear)
plain_at s stage.Sync2 = plain_waiting s (first_unanswered s.collector)
plain_at s stage.Trace = plain_waiting s (first_unanswered s.collector)
plain_at s stage.Sweep = Some (plain_work s stage.Sweep)

-- the plain collector's next event; none where a mutator that is in has to answer first
abbrev pub next_plain_of : State → Option Event
next_plain_of s = plain_at s s.control.stage
