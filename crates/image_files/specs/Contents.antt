-- What a text holds that may be a heap file: the number of cells and the lines of those in use, or
-- the first faulty line.
--
-- The head is line 1: the line after N lines of cells is line N + 2, and what comes after the end
-- is line N + 3. A line is looked at after those before it, where no line is at fault among them.
-- Source: this project's own.
use Rattle.std.specs.Prelude.{ℕ, Bool, true, false, ◌+◌, List, [], ◌∷◌, ◌++◌, length, nat_le}
use Rattle.std.specs.Prelude.{Option, Some, None, Result, Ok, Err, if◌then◌else◌}
use Rattle.line_texts.specs.Lines.{has_feed, is_end, lines_of}
use Rattle.image_files.specs.Line.{head_of, line_of}
use Rattle.image_files.specs.declared.fault.ImageFault.{ImageFault}
use Rattle.image_files.specs.declared.fault.ImageKind.{ImageKind}
use Rattle.image_files.specs.declared.fault.ImageKind.TheVariants.{BadEnd, NoHead, NoOrder}
use Rattle.image_files.specs.declared.line.CellLine.{CellLine}
use Rattle.image_files.specs.declared.line.Held.{Held}
use Rattle.image_files.specs.declared.line.Held.TheVariants as held

pub record Contents : Type 0 where
  pub cells : ℕ
  pub lines : List CellLine

abbrev pub fault_at : {A : Type 0} → ℕ → ImageKind → Result A ImageFault
fault_at line kind = Err (record { line = line; kind = kind })

-- the least number that the cell of the next line may have
abbrev pub least_after : List CellLine → ℕ
least_after [] = 0
least_after (l ∷ []) = l.cell + 1
least_after (l ∷ m ∷ lines) = least_after (m ∷ lines)

-- a line of a cell from this number on
abbrev pub in_order : ℕ → Result Held ImageKind → Result Held ImageKind
in_order least (Err kind) = Err kind
in_order least (Ok held.End) = Ok held.End
in_order least (Ok (held.Cell l)) =
    if nat_le least l.cell then Ok (held.Cell l) else Err NoOrder

-- a line after these
abbrev pub turn_of : ℕ → List CellLine → Bool → List ℕ → Result Held ImageKind
turn_of size before has line = in_order (least_after before) (line_of size has line)

-- the lines where the end was the last
abbrev pub ended : List CellLine → List (List ℕ) → Result (List CellLine) ImageFault
ended before lines = if is_end lines then Ok before else fault_at (length before + 3) BadEnd

-- the rest after a line
abbrev pub with_turn : List CellLine → Result Held ImageKind → List (List ℕ)
    → (List CellLine → Result (List CellLine) ImageFault) → Result (List CellLine) ImageFault
with_turn before (Err kind) lines later = fault_at (length before + 2) kind
with_turn before (Ok held.End) lines later = ended before lines
with_turn before (Ok (held.Cell l)) lines later = later (before ++ l ∷ [])

-- all lines of cells, after these
abbrev pub lines_from : ℕ → List CellLine → List (List ℕ) → Result (List CellLine) ImageFault
lines_from size before [] = fault_at (length before + 2) BadEnd
lines_from size before (line ∷ lines) =
    with_turn before (turn_of size before (has_feed lines) line) lines
    (λ more. lines_from size more lines)

abbrev pub with_lines : ℕ → Result (List CellLine) ImageFault → Result Contents ImageFault
with_lines size (Ok lines) = Ok (record { cells = size; lines = lines })
with_lines size (Err fault) = Err fault

-- the rest after a head, which is none without its line feed
abbrev pub with_head : Option ℕ → Bool → List (List ℕ) → Result Contents ImageFault
with_head None has lines = fault_at 1 NoHead
with_head (Some size) false lines = fault_at 1 NoHead
with_head (Some size) true lines = with_lines size (lines_from size [] lines)

-- the contents of these lines
abbrev pub contents_in : List (List ℕ) → Result Contents ImageFault
contents_in [] = fault_at 1 NoHead
contents_in (line ∷ lines) = with_head (head_of line) (has_feed lines) lines

-- the contents of a text
abbrev pub contents_of : List ℕ → Result Contents ImageFault
contents_of bytes = contents_in (lines_of bytes)
