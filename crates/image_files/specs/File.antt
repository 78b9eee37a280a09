-- The heap that the lines of a heap file show: a cell without a line is free, and its fields are
-- null.
-- Source: this project's own.
use Rattle.std.specs.Prelude.{ℕ, ◌≡◌, ◌+◌, ◌<◌, ◌≤◌, ◌==◌, List, [], ◌∷◌, length, slice_get}
use Rattle.std.specs.Prelude.{slice_index_or, Option, Some, None, IfSome, if◌then◌else◌}
use Rattle.std.proofs.Common.{refl, subst}
use Rattle.cell_words.specs.declared.colours.Colour.{Colour}
use Rattle.cell_words.specs.declared.colours.Colour.TheVariants as colour
use Rattle.cell_words.specs.declared.controls.TheConstants.{GREATEST_POSITION}
use Rattle.cell_words.specs.declared.fields.Field.{Field}
use Rattle.cell_words.specs.declared.fields.Field.TheVariants as field
use Rattle.core_machine.specs.InRange.{NamesBelow}
use Rattle.heap_census.specs.Heap.{Heap, NamesFit}
use Rattle.image_files.specs.Contents.{Contents, least_after}
use Rattle.image_files.specs.declared.line.CellLine.{CellLine}

abbrev pub one_later : Option ℕ → Option ℕ
one_later None = None
one_later (Some place) = Some (place + 1)

-- the place of the cell's line among those of cells
abbrev pub place_of : List CellLine → ℕ → Option ℕ
place_of [] c = None
place_of (l ∷ lines) c = if l.cell == c then Some 0 else one_later (place_of lines c)

-- the number of the line at that place: the head is before it
abbrev pub number_at : Option ℕ → ℕ
number_at None = 1
number_at (Some place) = place + 2

-- the number of the cell's line, which is 1 where it has none
abbrev pub line_number : List CellLine → ℕ → ℕ
line_number lines c = number_at (place_of lines c)

abbrev pub line_at : List CellLine → Option ℕ → Option CellLine
line_at lines None = None
line_at lines (Some place) = slice_get lines place

-- the cell's line
abbrev pub line_for : List CellLine → ℕ → Option CellLine
line_for lines c = line_at lines (place_of lines c)

abbrev pub colour_by : Option CellLine → Colour
colour_by None = colour.Blue
colour_by (Some l) = l.colour

abbrev pub field_by : Option CellLine → ℕ → Field
field_by None i = field.Null
field_by (Some l) i = slice_index_or l.fields i field.Null

-- the heap
abbrev pub heap_in : Contents → Heap
heap_in f = record {
  cells = f.cells;
  colour = λ c. colour_by (line_for f.lines c);
  field = λ c i. field_by (line_for f.lines c) i;
}

-- the lines as they are kept, with an index by cell
pub record FileView : Type 0 where
  pub size : ℕ
  pub least : ℕ
  pub lines : List CellLine
  pub places : List (Option ℕ)

-- the line is one of a heap with so many cells
pub record LineFits (size : ℕ) (l : CellLine) : Type 0 where
  pub in_size : l.cell < size
  pub fields : (i : ℕ) → NamesBelow size (slice_index_or l.fields i field.Null)

-- What holds of the lines that were read.
pub record IsFile (f : FileView) : Type 0 where
  pub some : 0 < f.size
  pub few : f.size ≤ GREATEST_POSITION
  pub least_is : f.least ≡ least_after f.lines
  pub in_size : f.least ≤ f.size
  pub rises : length f.lines ≤ f.least
  pub before : (k : ℕ) → IfSome (slice_get f.lines k) (λ l. l.cell < f.least)
  pub fit : (k : ℕ) → IfSome (slice_get f.lines k) (LineFits f.size)
  pub placed : length f.places ≡ f.size
  pub index : (c : ℕ) → c < f.size → slice_index_or f.places c None ≡ place_of f.lines c

abbrev pub contents_by : FileView → Contents
contents_by f = record { cells = f.size; lines = f.lines }

abbrev pub ShowsFile : FileView → Heap → Type 0
ShowsFile f h = IsFile f × (heap_in (contents_by f) ≡ h)

-- what is so of all lines is so of the one at a place
abbrev pub line_there : (Is : CellLine → Type 0) (lines : List CellLine) (place : Option ℕ)
    → ((k : ℕ) → IfSome (slice_get lines k) Is) → IfSome (line_at lines place) Is
line_there Is lines None all = tt
line_there Is lines (Some k) all = all k

abbrev pub names_by : (size : ℕ) (found : Option CellLine) (i : ℕ) → IfSome found (LineFits size)
    → NamesBelow size (field_by found i)
names_by size None i fits = tt
names_by size (Some l) i fits = fits.fields i

-- the fields name cells that there are
pub file_fits : (f : FileView) (h : Heap) → ShowsFile f h → NamesFit f.size h
file_fits f h shows = subst (NamesFit f.size) shows.1 (record {
  cells_are = refl;
  some_cells = shows.0.some;
  fields_fit = λ c i. names_by f.size (line_for f.lines c) i
      (line_there (LineFits f.size) f.lines (place_of f.lines c) shows.0.fit);
})
