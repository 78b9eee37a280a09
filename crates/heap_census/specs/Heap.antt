-- A closed heap, as far as a census looks at it.
-- Source: this project's.
use Rattle.std.specs.Prelude.{ℕ, ◌≡◌, ◌<◌, Bool}
use Rattle.std.proofs.Common.{refl, subst}
use Rattle.cell_words.specs.declared.colours.Colour.{Colour}
use Rattle.cell_words.specs.declared.fields.Field.{Field}
use Rattle.core_machine.specs.InRange.{NamesBelow}
use Rattle.core_machine.specs.State.{State, colour_of, field_of}
use Rattle.core_machine.specs.Words.{is_blue}
use Rattle.heap_table.specs.Images.{ImageView, Shows}

pub record Heap : Type 0 where
  -- how many cells there are
  pub cells : ℕ
  -- by cell: its colour, and its six fields
  pub colour : ℕ → Colour
  pub field : ℕ → ℕ → Field

-- the heap of a state
abbrev pub heap_of : State → Heap
heap_of s = record { cells = s.cells; colour = colour_of s; field = field_of s }

-- The words of a closed heap show it. A relation, since nothing says that any words show a heap: so
-- a number in a field is compared with their count before it is used as an index.
abbrev pub ShowsHeap : ImageView → Heap → Type 0
ShowsHeap i h = (s : State) × Shows i s × (heap_of s ≡ h)

-- nobody has the cell
abbrev pub is_free : Heap → ℕ → Bool
is_free h c = is_blue (h.colour c)

-- there is an anchor, and each field names a cell that there is
pub record NamesFit (size : ℕ) (h : Heap) : Type 0 where
  pub cells_are : h.cells ≡ size
  pub some_cells : 0 < size
  pub fields_fit : (c i : ℕ) → NamesBelow size (h.field c i)

-- what the words of a closed heap show has them
pub image_fits : (i : ImageView) (h : Heap) → ShowsHeap i h → NamesFit i.cells h
image_fits i h shows =
    let s = shows.0 in
    let shape = shows.1.in_range.shape in
    subst (NamesFit i.cells) shows.2
    (subst (λ n. NamesFit n (heap_of s)) shows.1.cells_are (record {
      cells_are = refl;
      some_cells = shape.cells_fit.some_cells;
      fields_fit = shape.names_fit.fields_fit;
    }))
