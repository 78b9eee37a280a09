-- What a heap with the box opens with, and what it shows at its close.
-- Source: this project's.
use Rattle.std.specs.Prelude.{ℕ, ◌≡◌, List, [], ◌∷◌, Option, Some, None}
use Rattle.cell_words.specs.declared.fields.Field.{Field}
use Rattle.cell_words.specs.declared.fields.Field.TheVariants as field
use Rattle.core_machine.specs.State.{State, field_of, greatest_cycles}
use Rattle.heap_rule.specs.Laws.{Ended}
use Rattle.heap_rule.specs.NoRule.{no_field_is_fixed}
use Rattle.heap_rule.specs.Shape.{Shape}
use Rattle.heap_rule.specs.declared.view.View.{View}
use Rattle.heap_table.specs.Images.{ImageView, Shows}
use Rattle.mutator_threads.specs.Closing.{HasCollected}
use Rattle.example_root.specs.Rule.{HasKept, nothing_kept}
use Rattle.example_root.specs.declared.kept.Kept.{Kept}

-- the anchor, which names the box, and the box with nothing in it
abbrev pub kept_rows : List (List Field)
kept_rows =
    (field.Cell 1 ∷ field.Null ∷ field.Null ∷ field.Null ∷ field.Null ∷ field.Num 2 ∷ [])
    ∷ (field.Null ∷ field.Null ∷ field.Null ∷ field.Null ∷ field.Null ∷ field.Num 2 ∷ []) ∷ []

abbrev pub kept_shape : ℕ → Shape
kept_shape cells = record { cells = cells; mutators = 2; setting = 0; first = kept_rows }

-- in field 0 of the box nothing is kept, or the record of this number
abbrev pub IsKept : State → Option ℕ → Type 0
IsKept s None = field_of s 1 0 ≡ field.Null
IsKept s (Some n) =
    (cell : ℕ) × ((field_of s 1 0 ≡ field.Cell cell) × (field_of s cell 0 ≡ field.Num n))

-- A heap of so many cells and of two mutators was closed: the box of its last state has what the
-- first one keeps. The collector has served, and has freed so many cells.
pub record Leaves (cells : ℕ) (kept : Option ℕ) (freed : ℕ) (image : ImageView) (view : View Kept)
    : Type 0 where
  pub shape : Shape
  pub cells_are : shape.cells ≡ cells
  pub mutators_are : shape.mutators ≡ 2
  pub ended : Ended nothing_kept HasKept no_field_is_fixed shape (Unit {0}) image.words view
  pub shows : Shows image ended.shows.core
  pub kept_is : IsKept ended.shows.core kept
  pub collected : HasCollected shape greatest_cycles freed ended.shows.core view
