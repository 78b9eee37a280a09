-- What a heap with the counter opens with, and what a run of threads leaves.
-- Source: this project's.
use Rattle.std.specs.Prelude.{ℕ, ◌≡◌, List, [], ◌∷◌, Some}
use Rattle.cell_words.specs.declared.fields.Field.{Field}
use Rattle.cell_words.specs.declared.fields.Field.TheVariants as field
use Rattle.core_machine.specs.State.{greatest_cycles}
use Rattle.heap_rule.specs.Laws.{Ended}
use Rattle.heap_rule.specs.NoRule.{no_field_is_fixed}
use Rattle.heap_rule.specs.Shape.{Shape}
use Rattle.heap_rule.specs.declared.view.View.{View}
use Rattle.heap_table.specs.Images.{ImageView, Shows}
use Rattle.mutator_threads.specs.Closing.{HasCollected}
use Rattle.example_counter.specs.Counting.{Counts, counter_in, nothing_added, sum_of}
use Rattle.example_counter.specs.declared.counter.Added.{Added}

-- the anchor, which names the record of 0, and that record
abbrev pub counter_rows : List (List Field)
counter_rows =
    (field.Cell 1 ∷ field.Null ∷ field.Null ∷ field.Null ∷ field.Null ∷ field.Num 2 ∷ [])
    ∷ (field.Num 0 ∷ field.Null ∷ field.Null ∷ field.Null ∷ field.Null ∷ field.Num 1 ∷ []) ∷ []

abbrev pub counter_shape : ℕ → ℕ → Shape
counter_shape cells threads =
    record { cells = cells; mutators = threads; setting = 0; first = counter_rows }

-- A heap with the counter, of so many cells and for so many threads, was closed. The counter of its
-- last state is the sum of the passes, and that is this number. The collector has served, and has
-- freed so many cells.
pub record Leaves (cells threads sum freed : ℕ) (image : ImageView) (view : View Added) : Type 0
  where
    pub ended : Ended nothing_added Counts no_field_is_fixed (counter_shape cells threads)
        (Unit {0}) image.words view
    pub shows : Shows image ended.shows.core
    pub counter : counter_in ended.shows.core ≡ Some sum
    pub summed : sum_of ended.shows.passes ≡ sum
    pub collected : HasCollected (counter_shape cells threads) greatest_cycles freed
        ended.shows.core view
