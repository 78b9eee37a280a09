-- The lines that a replay writes.
-- Source: this project's.
use Rattle.std.specs.Prelude.{ℕ, List, ◌++◌, codes, decimal}
use Rattle.line_texts.specs.CellTexts.{colour_text, field_text}
use Rattle.core_machine.specs.State.{State, colour_of, field_of, freed_of, free_count_of}
use Rattle.core_replay.specs.Standing.{Standing}

-- six texts, parted by spaces
abbrev pub six_texts : List ℕ → List ℕ → List ℕ → List ℕ → List ℕ → List ℕ → List ℕ
six_texts a b c d e f =
    a ++ (codes " " ++
    (b ++ (codes " " ++ (c ++ (codes " " ++ (d ++ (codes " " ++ (e ++ (codes " " ++ f)))))))))

-- the six fields of a cell
abbrev pub fields_text : State → ℕ → List ℕ
fields_text s c =
    six_texts (field_text (field_of s c 0)) (field_text (field_of s c 1))
    (field_text (field_of s c 2))
    (field_text (field_of s c 3)) (field_text (field_of s c 4)) (field_text (field_of s c 5))

-- the line of a cell: its number, its colour, its fields and how often it was freed
abbrev pub cell_line : ℕ → List ℕ → List ℕ → ℕ → List ℕ
cell_line c colour fields freed =
    codes "cell " ++ (decimal c ++ (codes " " ++ (colour ++ (codes " " ++ (fields
    ++ (codes " freed " ++ (decimal freed ++ codes "\n")))))))

abbrev pub cell_line_of : State → ℕ → List ℕ
cell_line_of s c = cell_line c (colour_text (colour_of s c)) (fields_text s c) (freed_of s c)

-- the line of a step that cannot be taken, by the number of its own line
abbrev pub not_now_line : ℕ → List ℕ
not_now_line line = codes "not now " ++ decimal line ++ codes "\n"

-- the last two lines: how many events were taken, and how many cells are blue
abbrev pub ending_line : ℕ → ℕ → List ℕ
ending_line taken free =
    codes "done " ++ (decimal taken ++ (codes "\nfree " ++ (decimal free ++ codes "\n")))

abbrev pub ending_of : Standing → List ℕ
ending_of p = ending_line p.taken (free_count_of p.core)
