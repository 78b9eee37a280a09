-- The first line of a schedule that counts: the sizes of the core.
-- Source: this project's.
use Rattle.std.specs.Prelude.{ℕ, List, [], ◌∷◌, codes, bytes_eq, nat_le, if◌then◌else◌, Result, Ok}
use Rattle.std.specs.Prelude.{Err}
use Rattle.line_texts.specs.Cut.{word_of, rest_of, next_word_of, next_rest_of}
use Rattle.core_replay.specs.Numbers.{and_then, number_to}
use Rattle.core_replay.specs.declared.fault.ScheduleKind.{ScheduleKind}
use Rattle.core_replay.specs.declared.fault.ScheduleKind.TheVariants.{NoStart, BadNumber, Extra}
use Rattle.core_replay.specs.declared.start.Sizes.{Sizes}

-- the next word, as a number from 1 to this one
abbrev pub size_in : ℕ → List ℕ → Result ℕ ScheduleKind
size_in most rest =
    and_then (number_to most (next_word_of rest)) (λ n.
    if nat_le 1 n then Ok n else Err BadNumber)

-- the part, where the line ends here
abbrev pub at_end : {A : Type 0} → List ℕ → A → Result A ScheduleKind
at_end [] part = Ok part
at_end (byte ∷ bytes) part = Err Extra

-- the three sizes after the word `core`
abbrev pub sizes_in : List ℕ → Result Sizes ScheduleKind
sizes_in rest =
    let after_cells = next_rest_of rest in
    let after_mutators = next_rest_of after_cells in
    and_then (size_in 256 rest) (λ cells.
    and_then (size_in 64 after_cells) (λ mutators.
    and_then (size_in 1024 after_mutators) (λ room.
    at_end (next_rest_of after_mutators)
    (record { cells = cells; mutators = mutators; room = room }))))

-- the first line that counts
abbrev pub start_of : List ℕ → Result Sizes ScheduleKind
start_of line =
    if bytes_eq (word_of line) (codes "core") then sizes_in (rest_of line) else Err NoStart
