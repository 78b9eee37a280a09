-- A schedule: the sizes of a core and the steps that it is to take, or the first faulty line.
--
-- Each line ends with a line feed, which the last may lack. Lines are numbered from 1, those that
-- do not count too. Where no line counts, the first is at fault.
-- Source: this project's.
use Rattle.std.specs.Prelude.{ℕ, ◌+◌, List, [], ◌∷◌, Option, Some, None, Result, Ok, Err}
use Rattle.line_texts.specs.Lines.{lines_of}
use Rattle.core_replay.specs.Lines.{reading_of}
use Rattle.core_replay.specs.declared.fault.ScheduleFault.{ScheduleFault}
use Rattle.core_replay.specs.declared.fault.ScheduleKind.{ScheduleKind}
use Rattle.core_replay.specs.declared.fault.ScheduleKind.TheVariants.{NoStart}
use Rattle.core_replay.specs.declared.line.Numbered.{Numbered}
use Rattle.core_replay.specs.declared.line.Reading.{Reading}
use Rattle.core_replay.specs.declared.line.Reading.TheVariants.{Nothing, Start, Next}
use Rattle.core_replay.specs.declared.start.Sizes.{Sizes}
use Rattle.core_replay.specs.ScheduleValue.{ScheduleValue}

-- a step comes before those of the lines after it
abbrev pub with_step : Numbered → Result ScheduleValue ScheduleFault
    → Result ScheduleValue ScheduleFault
with_step step (Ok later) = Ok (record { sizes = later.sizes; steps = step ∷ later.steps })
with_step step (Err fault) = Err fault

-- the reading of the line with this number, and then that of the lines after it
abbrev pub with_line : ℕ → Option Sizes → Result Reading ScheduleKind
    → (Option Sizes → Result ScheduleValue ScheduleFault) → Result ScheduleValue ScheduleFault
with_line number sizes (Ok Nothing) later = later sizes
with_line number sizes (Ok (Start found)) later = later (Some found)
with_line number sizes (Ok (Next step)) later =
    with_step (record { line = number; step = step }) (later sizes)
with_line number sizes (Err kind) later = Err (record { line = number; kind = kind })

-- after the last line
abbrev pub ended : Option Sizes → Result ScheduleValue ScheduleFault
ended None = Err (record { line = 1; kind = NoStart })
ended (Some sizes) = Ok (record { sizes = sizes; steps = [] })

-- the lines, of which the first has this number, with the sizes if they are known already
abbrev pub schedule_from : ℕ → List (List ℕ) → Option Sizes → Result ScheduleValue ScheduleFault
schedule_from number [] sizes = ended sizes
schedule_from number (line ∷ lines) sizes =
    with_line number sizes (reading_of sizes line) (schedule_from (number + 1) lines)

-- the schedule
abbrev pub schedule_of : List ℕ → Result ScheduleValue ScheduleFault
schedule_of bytes = schedule_from 1 (lines_of bytes) None
