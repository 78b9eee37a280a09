-- A heap in a table and its seats, as contracts see them.
-- Source: this project's.
use Rattle.std.specs.Prelude.{ℕ, ◌≡◌, ◌+◌, ◌*◌, ◌≤◌}
use Rattle.atomic_table.specs.Seated.{TableId}
use Rattle.core_machine.specs.State.{greatest_cells}
use Rattle.heap_rule.specs.declared.view.View.{View}
use Rattle.heap_rule.specs.Shape.{Shape}

-- which table a heap's words are in, and what is fixed of the heap
pub record HeapId : Type 0 where
  pub table : TableId
  pub shape : Shape

-- which table a seat is of, and what it knows
pub record SeatView (P : Type 0) : Type 0 where
  pub table : TableId
  pub me : View P

-- the control's word, a word a mutator, and seven words a cell
abbrev pub words_many : Shape → ℕ
words_many h = 1 + h.mutators + 7 * h.cells

-- what the numbers that a heap has at hand say of it
pub record IsHeap (table : TableId) (shape : Shape) (cells mutators : ℕ) : Type 0 where
  pub words : table.words ≡ words_many shape
  pub slots : table.slots ≡ 0
  pub cells_are : shape.cells ≡ cells
  pub mutators_are : shape.mutators ≡ mutators
  pub few : cells ≤ greatest_cells

module _ {P : Type 0} where
  -- the seat is one of this heap
  abbrev pub IsSeatOf : HeapId → SeatView P → Type 0
  IsSeatOf heap seat = (seat.table ≡ heap.table) × (seat.me.shape ≡ heap.shape)
