-- What a thread has before it pushes and leaves, and what a run of threads leaves.
-- Source: this project's.
use Rattle.std.specs.Prelude.{ℕ, ◌≡◌, List, [], ◌∷◌}
use Rattle.cell_words.specs.declared.fields.Field.{Field}
use Rattle.cell_words.specs.declared.fields.Field.TheVariants as field
use Rattle.core_machine.specs.State.{greatest_cycles}
use Rattle.free_cells.specs.declared.queue.FreeQueue.{FreeQueue}
use Rattle.heap_rule.specs.Laws.{Ended}
use Rattle.heap_rule.specs.NoRule.{anything_holds, no_field_is_fixed}
use Rattle.heap_rule.specs.Shape.{Shape}
use Rattle.heap_rule.specs.declared.keeping.NoRule.{NoRule}
use Rattle.heap_rule.specs.declared.view.View.{View}
use Rattle.heap_table.specs.Images.{ImageView, Shows}
use Rattle.heap_table.specs.Seats.{HeapId}
use Rattle.mutator_threads.specs.Closing.{HasCollected}
use Rattle.mutator_threads.specs.Mutators.{IsOver, IsWorker}
use Rattle.mutator_threads.specs.declared.worker.Worker.{Worker}

-- a thread knows nothing of the boxes
abbrev pub nothing_known : ℕ → ℕ → NoRule
nothing_known number setting = record {}

-- what it has of its own is how many nodes it has pushed: none
abbrev pub IsPusher : HeapId → FreeQueue → ℕ → Worker NoRule ℕ → Type 0
IsPusher heap queue number worker =
    IsWorker nothing_known heap queue 8 (λ (place count : ℕ). count ≡ 0) number worker

-- it is over
abbrev pub HasPushed : HeapId → ℕ → Worker NoRule ℕ → Type 0
HasPushed heap number worker = IsOver heap number worker.seat

-- the anchor, which names nothing
abbrev pub list_rows : List (List Field)
list_rows = (field.Null ∷ field.Null ∷ field.Null ∷ field.Null ∷ field.Null ∷ field.Num 2 ∷ [])
    ∷ []

abbrev pub list_shape : ℕ → ℕ → Shape
list_shape cells threads =
    record { cells = cells; mutators = threads; setting = 0; first = list_rows }

-- A heap of so many cells and for so many threads was closed. The collector has served, and has
-- freed so many cells.
pub record Leaves (cells threads freed : ℕ) (image : ImageView) (view : View NoRule) : Type 0
  where
    pub ended : Ended nothing_known anything_holds no_field_is_fixed (list_shape cells threads)
        (Unit {0}) image.words view
    pub shows : Shows image ended.shows.core
    pub collected : HasCollected (list_shape cells threads) greatest_cycles freed
        ended.shows.core view
