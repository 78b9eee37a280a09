-- Numbers and values of a schedule.
--
-- A number is 1 to 19 decimal digits, which may begin with zeros. A value of a field is `-` for
-- null, `=` before a number below 2^62, or `@` before the number of a cell.
-- Source: this project's.
use Rattle.std.specs.Prelude.{ℕ, ◌-◌, ◌^◌, ◌&&◌, List, [], ◌∷◌, length, nat_le, ◌==◌, if◌then◌else◌}
use Rattle.std.specs.Prelude.{Option, Some, None, Result, Ok, Err}
use Rattle.cell_words.specs.declared.fields.Field.{Field}
use Rattle.cell_words.specs.declared.fields.Field.TheVariants as fields
use Rattle.line_texts.specs.Cut.{next_word_of}
use Rattle.line_texts.specs.Numbers.{digits_of}
use Rattle.core_replay.specs.declared.fault.ScheduleKind.{ScheduleKind}
use Rattle.core_replay.specs.declared.fault.ScheduleKind.TheVariants.{BadNumber}

-- what the reading of a first part, where it has no fault, is followed by
abbrev pub and_then : {A B : Type 0} → Result A ScheduleKind → (A → Result B ScheduleKind)
    → Result B ScheduleKind
and_then (Ok part) later = later part
and_then (Err kind) later = Err kind

-- the number, where it is at most this one
abbrev pub at_most : ℕ → Option ℕ → Result ℕ ScheduleKind
at_most most None = Err BadNumber
at_most most (Some number) = if nat_le number most then Ok number else Err BadNumber

-- the number that a word of 1 to 19 digits is, at most this one
abbrev pub number_to : ℕ → List ℕ → Result ℕ ScheduleKind
number_to most word = at_most most (digits_of 19 word)

-- the greatest number of a mutator, cell, place, field or count that can be written
abbrev pub greatest_index : ℕ
greatest_index = 4294967295

-- the greatest number in a field
abbrev pub greatest_number : ℕ
greatest_number = 2 ^ 62 - 1

-- the next word, as the number of a mutator, cell, place, field or count
abbrev pub index_in : List ℕ → Result ℕ ScheduleKind
index_in rest = number_to greatest_index (next_word_of rest)

-- a word, as a value of a field
abbrev pub value_of : List ℕ → Result Field ScheduleKind
value_of [] = Err BadNumber
value_of (sign ∷ digits) =
    if sign == 45 && (length digits == 0) then Ok fields.Null
    else if sign == 61 then and_then (number_to greatest_number digits) (λ n. Ok (fields.Num n))
    else if sign == 64 then and_then (number_to greatest_index digits) (λ c. Ok (fields.Cell c))
    else Err BadNumber

-- the next word, as a value of a field
abbrev pub value_in : List ℕ → Result Field ScheduleKind
value_in rest = value_of (next_word_of rest)
