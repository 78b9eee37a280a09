-- A closed heap as text: a head, a line for each cell in use, and an end.
-- Source: this project's.
use Rattle.std.specs.Prelude.{ℕ, zero, suc, List, [], ◌++◌, codes, decimal, if◌then◌else◌}
use Rattle.line_texts.specs.CellTexts.{colour_text, field_text}
use Rattle.heap_census.specs.Heap.{Heap, is_free}

-- the first fields of a cell, each after a space
abbrev pub fields_text : Heap → ℕ → ℕ → List ℕ
fields_text h c zero = []
fields_text h c (suc i) = fields_text h c i ++ (codes " " ++ field_text (h.field c i))

-- its number, its colour and its six fields
abbrev pub cell_line : Heap → ℕ → List ℕ
cell_line h c =
    decimal c ++ (codes " " ++ (colour_text (h.colour c) ++ (fields_text h c 6 ++ codes "\n")))

-- the lines of those of the first cells that are in use
abbrev pub cell_lines : Heap → ℕ → List ℕ
cell_lines h zero = []
cell_lines h (suc c) = cell_lines h c ++ (if is_free h c then [] else cell_line h c)

abbrev pub image_text : Heap → List ℕ
image_text h =
    codes "image 1 " ++ (decimal h.cells ++ (codes "\n" ++ (cell_lines h h.cells ++ codes "end\n")))
