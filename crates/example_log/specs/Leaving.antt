-- What a heap with a log opens with, and what a run of threads leaves: the log in the words of the
-- closed heap.
-- Source: this project's.
use Rattle.std.specs.Prelude.{ℕ, ◌≡◌, zero, suc, List, [], ◌∷◌, length, sum}
use mathlib.Core.Option.{some}
use lib.ListN.{get_elem?}
use Rattle.cell_words.specs.declared.fields.Field.{Field}
use Rattle.cell_words.specs.declared.fields.Field.TheVariants as field
use Rattle.core_machine.specs.State.{State, field_of, greatest_cycles}
use Rattle.heap_rule.specs.Laws.{Ended}
use Rattle.heap_rule.specs.Shape.{Shape}
use Rattle.heap_rule.specs.declared.view.View.{View}
use Rattle.heap_table.specs.Images.{ImageView, Shows}
use Rattle.mutator_threads.specs.Closing.{HasCollected}
use Rattle.example_log.specs.Logging.{KeepsLog, entries_of, is_fixed, nothing_appended}
use Rattle.example_log.specs.declared.log.Appended.{Appended}

-- the field names the box that the log opened with
pub record NamesFirst (s : State) (from : Field) : Type 0 where
  pub cell : ℕ
  pub from_is : from ≡ field.Cell cell
  pub number_is : field_of s cell 0 ≡ field.Num 0
  pub none_before : field_of s cell 1 ≡ field.Null

-- or this writer's entry, after those of these writers
pub record NamesEntry (s : State) (from : Field) (writer : ℕ) (writers : List ℕ) : Type 0 where
  pub cell : ℕ
  pub from_is : from ≡ field.Cell cell
  pub number_is : field_of s cell 0 ≡ field.Num (length (writer ∷ writers))
  pub writer_is : field_of s cell 2 ≡ field.Num writer
  pub own_is : field_of s cell 3 ≡ field.Num (entries_of writer writers)

-- from this field on a chain has the entries of these writers, the newest first
abbrev pub LogFrom : State → Field → List ℕ → Type 0
LogFrom s from [] = NamesFirst s from
LogFrom s from (writer ∷ writers) =
    (entry : NamesEntry s from writer writers) × LogFrom s (field_of s entry.cell 1) writers

-- how many boxes field 1 leads through from here on, counting at most so many
abbrev pub boxes_from : ℕ → State → Field → ℕ
boxes_from zero s from = 0
boxes_from (suc n) s field.Null = 0
boxes_from (suc n) s (field.Num k) = 0
boxes_from (suc n) s (field.Cell c) = suc (boxes_from n s (field_of s c 1))

-- the anchor, which names the box before the first entry, and that box
abbrev pub log_rows : List (List Field)
log_rows =
    (field.Cell 1 ∷ field.Null ∷ field.Null ∷ field.Null ∷ field.Null ∷ field.Num 2 ∷ [])
    ∷ (field.Num 0 ∷ field.Null ∷ field.Null ∷ field.Null ∷ field.Null ∷ field.Num 2 ∷ []) ∷ []

abbrev pub log_shape : ℕ → ℕ → Shape
log_shape cells threads =
    record { cells = cells; mutators = threads; setting = 0; first = log_rows }

-- A heap with a log, of so many cells and for as many threads as have these counts, was closed. The
-- anchor of its last state names the newest entry. The log has as many entries as all threads have
-- appended, and of each of them as many as it has appended. The collector has served, and has freed
-- so many cells.
pub record Leaves (cells : ℕ) (counts : List ℕ) (freed : ℕ) (image : ImageView)
    (view : View Appended) : Type 0 where
  pub ended : Ended nothing_appended KeepsLog is_fixed (log_shape cells (length counts))
      (Unit {0}) image.words view
  pub shows : Shows image ended.shows.core
  pub writers : List ℕ
  pub log : LogFrom ended.shows.core (field_of ended.shows.core 0 0) writers
  pub many : length writers ≡ sum counts
  pub by : (number count : ℕ) → get_elem? counts number ≡ some count
      → entries_of number writers ≡ count
  pub collected : HasCollected (log_shape cells (length counts)) greatest_cycles freed
      ended.shows.core view
