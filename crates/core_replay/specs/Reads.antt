-- How the result of the reader relates to the definition: equal, unless out of memory.
-- Source: this project's.
use Rattle.std.specs.Prelude.{◌≡◌, Result, Ok, Err}
use Rattle.core_replay.specs.ScheduleValue.{ScheduleValue}
use Rattle.core_replay.specs.declared.fault.ScheduleError.{ScheduleError}
use Rattle.core_replay.specs.declared.fault.ScheduleError.TheVariants as schedule
use Rattle.core_replay.specs.declared.fault.ScheduleFault.{ScheduleFault}
use Rattle.core_replay.specs.declared.schedule.Schedule.{Schedule}

-- the result is this schedule
abbrev pub Reads : Result Schedule ScheduleError → Result ScheduleValue ScheduleFault → Type 0
Reads (Ok read) written = written ≡ Ok read
Reads (Err (schedule.Fault fault)) written = written ≡ Err fault
Reads (Err schedule.NoMemory) written = Unit {0}
