-- One line of a schedule.
--
-- The first line that counts gives the sizes of the core, each later one a step.
-- Source: this project's.
use Rattle.std.specs.Prelude.{ℕ, IsTrue, not, List, if◌then◌else◌, Option, Some, None, Result, Ok}
use Rattle.std.specs.Prelude.{Err}
use Rattle.std.specs.List.{list_all}
use Rattle.std.specs.Str.Lines.{strip_carriage_return}
use Rattle.line_texts.specs.Line.{counts, is_plain_byte}
use Rattle.core_replay.specs.Numbers.{and_then}
use Rattle.core_replay.specs.Start.{start_of}
use Rattle.core_replay.specs.Steps.{step_of}
use Rattle.core_replay.specs.declared.fault.ScheduleKind.{ScheduleKind}
use Rattle.core_replay.specs.declared.fault.ScheduleKind.TheVariants.{BadByte}
use Rattle.core_replay.specs.declared.line.Reading.{Reading}
use Rattle.core_replay.specs.declared.line.Reading.TheVariants.{Nothing, Start, Next}
use Rattle.core_replay.specs.ScheduleValue.{are_sizes}
use Rattle.core_replay.specs.declared.start.Sizes.{Sizes}

-- a line that counts, before the core has its sizes and after
abbrev pub counted_reading_of : Option Sizes → List ℕ → Result Reading ScheduleKind
counted_reading_of None line = and_then (start_of line) (λ sizes. Ok (Start sizes))
counted_reading_of (Some sizes) line = and_then (step_of line) (λ step. Ok (Next step))

-- a line without its end
abbrev pub bare_reading_of : Option Sizes → List ℕ → Result Reading ScheduleKind
bare_reading_of sizes line =
    if not (counts line) then Ok Nothing
    else if not (list_all is_plain_byte line) then Err BadByte
    else counted_reading_of sizes line

-- the reading of a line
abbrev pub reading_of : Option Sizes → List ℕ → Result Reading ScheduleKind
reading_of sizes bytes = bare_reading_of sizes (strip_carriage_return bytes)

-- sizes that a line gives are such as a core can have
abbrev pub HasAllowedSizes : Reading → Type 0
HasAllowedSizes Nothing = Unit {0}
HasAllowedSizes (Start sizes) = IsTrue (are_sizes sizes)
HasAllowedSizes (Next step) = Unit {0}
