-- The schedule that a file holds, or the fault that decides.
--
-- A file is looked at for its size first, then for its grammar.
-- Source: this project's own.
use Rattle.std.specs.Prelude.{◌≡◌, ℕ, ◌≤◌, List, length, Option, IfSome, Result, Ok, Err, IsErr}
use Rattle.std.specs.Prelude.{IsOk, Vec}
use Rattle.std.specs.declared.alloc.Global.{Global}
use Rattle.core_replay.specs.Replay.{IsReplayText}
use Rattle.core_replay.specs.Schedule.{schedule_of}
use Rattle.core_replay.specs.ScheduleValue.{ScheduleValue}
use Rattle.core_replay.specs.declared.fault.ScheduleFault.{ScheduleFault}
use Rattle.script_files.specs.InTurn.{largest_file, within_size}
use Rattle.script_files.specs.Sorts.{OfSchedules, Refused, sort_of}
use Rattle.script_files.specs.declared.fault.Fault.{Fault}
use Rattle.script_files.specs.declared.fault.Fault.TheVariants.{Schedule, ReadFault}

-- what the reading of a schedule gives
abbrev pub after_schedule : Result ScheduleValue ScheduleFault → Result ScheduleValue Fault
after_schedule (Ok written) = Ok written
after_schedule (Err fault) = Err (Schedule fault.line fault.kind)

-- what the bytes of a schedule give
abbrev pub steps_of : List ℕ → Result ScheduleValue Fault
steps_of bytes = within_size 1 (λ schedule. after_schedule (schedule_of schedule)) bytes

-- the steps of some bytes, which are all that the file holds where that is told
abbrev pub IsReading : Option (List ℕ) → Result ScheduleValue Fault → Type 0
IsReading told outcome =
    (bytes : List ℕ) × IfSome told (λ all. bytes ≡ all) × (steps_of bytes ≡ outcome)

-- the replay text of the schedule that the file holds
abbrev pub IsTextOf : Option (List ℕ) → List ℕ → Type 0
IsTextOf told text =
    (schedule : ScheduleValue) × IsReading told (Ok schedule) × IsReplayText schedule text

-- a file within its size that is no schedule
abbrev pub IsFaultySchedule : List ℕ → Type 0
IsFaultySchedule bytes = (length bytes ≤ largest_file) × IsErr (schedule_of bytes)

-- a schedule within its size
abbrev pub IsSchedule : List ℕ → Type 0
IsSchedule bytes = (length bytes ≤ largest_file) × IsOk (schedule_of bytes)

-- the answer is the replay text of these steps, or memory ran out
abbrev pub Replays : Result (Vec ℕ Global) Fault → Result ScheduleValue Fault → Type 0
Replays (Ok text) steps =
    (schedule : ScheduleValue) × (steps ≡ Ok schedule) × IsReplayText schedule text.items
Replays (Err fault) steps = Refused OfSchedules (sort_of fault) (steps ≡ Err fault) ⊥

-- the answer is the replay text of the file, or it could not be read, or memory ran out
abbrev pub ReplaysFile : Result (Vec ℕ Global) Fault → Option (List ℕ) → Type 0
ReplaysFile (Ok text) told = IsTextOf told text.items
ReplaysFile (Err fault) told =
    Refused OfSchedules (sort_of fault) (IsReading told (Err fault)) (fault ≡ ReadFault 1)
