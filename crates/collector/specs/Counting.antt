-- What a stretch of the collector's events amounts to: that it ends no cycle, that it answers for
-- who is out, and its counts.
-- Source: this project's.
use Rattle.std.specs.Prelude.{ℕ, ◌≡◌, ◌≤◌, ◌+◌, ◌==◌, ◌&&◌, Bool, true, false, not, List}
use Rattle.std.specs.List.{count_by, list_all}
use Rattle.core_machine.specs.declared.events.Event.{Event}
use Rattle.core_machine.specs.declared.events.Event.TheVariants as event
use Rattle.core_machine.specs.declared.events.Taken.{Taken}
use Rattle.dlg_core.specs.PlainCycle.{ends_cycle}
use Rattle.collector.specs.Answering.{AnswersWhoIsOut}
use Rattle.collector.specs.Bound.{Bound, cells_of, part_of}
use Rattle.collector.specs.Replay.{Work, count_along, ends_pass, spills, stacks, strays}
use Rattle.collector.specs.Replay.{work_after_all}
use Rattle.collector.specs.Replay.{work_of}
use Rattle.collector.specs.Stretches.{Stretch}
use Rattle.collector.specs.declared.report.CycleReport.{CycleReport}

abbrev pub is_duty : Event → Bool
is_duty (event.Duty on) = true
is_duty _ = false

-- an event within a cycle neither ends it nor tells of duty
abbrev pub goes_on : Event → Bool
goes_on e = not (ends_cycle e) && not (is_duty e)

abbrev pub is_blacken : Event → Bool
is_blacken event.Blacken = true
is_blacken _ = false

abbrev pub is_free : Event → Bool
is_free event.Free = true
is_free _ = false

-- Reports.

abbrev pub nothing : CycleReport
nothing = record { passes = 0; scanned = 0; freed = 0; stacked = 0; spilled = 0 }

abbrev pub frees : ℕ → CycleReport
frees n = record nothing { freed = n }

-- one pass, where it ended
abbrev pub passes_one : Bool → CycleReport
passes_one true = record nothing { passes = 1 }
passes_one false = nothing

-- one child, that was pushed or found the stack full
abbrev pub shades_one : Bool → CycleReport
shades_one true = record nothing { stacked = 1 }
shades_one false = record nothing { spilled = 1 }

abbrev pub scans_one : CycleReport
scans_one = record nothing { scanned = 1 }

abbrev pub plus : CycleReport → CycleReport → CycleReport
plus r q = record {
  passes = r.passes + q.passes;
  scanned = r.scanned + q.scanned;
  freed = r.freed + q.freed;
  stacked = r.stacked + q.stacked;
  spilled = r.spilled + q.spilled;
}

-- what tracing amounts to: each count is at most this, and nothing is freed
pub record TracesAtMost (n : ℕ) (r : CycleReport) : Type 0 where
  pub passes : r.passes ≤ n
  pub scanned : r.scanned ≤ n
  pub stacked : r.stacked ≤ n
  pub spilled : r.spilled ≤ n
  pub freed : r.freed ≡ 0

-- These events lead the work from here to there, and amount to this.
pub record Comes (from to : Work) (r : CycleReport) (events : List Taken) : Type 0 where
  pub leads : work_after_all from events ≡ to
  pub passes_are : count_along ends_pass from events ≡ r.passes
  pub scanned_are : count_by (λ (t : Taken). is_blacken t.event) events ≡ r.scanned
  pub freed_are : count_by (λ (t : Taken). is_free t.event) events ≡ r.freed
  pub stacked_are : count_along stacks from events ≡ r.stacked
  pub spilled_are : count_along spills from events ≡ r.spilled
  -- no look is at another cell than the next
  pub straight : count_along strays from events ≡ 0

-- and none of them ends a cycle or tells of duty, and whoever is found out is answered for
pub record Counts (from to : Work) (r : CycleReport) (events : List Taken) : Type 0 where
  pub on : list_all (λ (t : Taken). goes_on t.event) events ≡ true
  pub answers : AnswersWhoIsOut from.control.stage events
  pub comes : Comes from to r events

module _ {P : Type 0} where
  -- a pass has come to the end and met no gray cell
  abbrev pub is_traced : Bound P → Bool
  is_traced c = ((part_of c).cursor == cells_of c) && (part_of c).clean

  -- the collector took events that amount to this
  abbrev pub Does : CycleReport → Bound P → Bound P → Type 0
  Does r old new = Stretch (Counts (work_of old) (work_of new) r) old new

  -- It took events of tracing that amount to what the later report has more than the earlier one:
  -- to at most so much of each kind.
  pub record CountsOn (n : ℕ) (so_far all : CycleReport) (old new : Bound P) : Type 0 where
    pub more : CycleReport
    pub few : TracesAtMost n more
    pub all_are : all ≡ plus so_far more
    pub does : Does more old new
