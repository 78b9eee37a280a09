-- What is fixed of a heap when it is made, and the state that it opens in.
-- Source: this project's.
use Rattle.std.specs.Prelude.{ℕ, ◌≤◌, List, length, IsTrue}
use Rattle.cell_words.specs.declared.fields.Field.{Field}
use Rattle.core_machine.specs.State.{State, opening, greatest_cells}
use Rattle.dlg_core.specs.FirstRows.{are_first_rows, AreRows}

pub record Shape : Type 0 where
  pub cells : ℕ
  pub mutators : ℕ
  -- a number for the opening passes alone
  pub setting : ℕ
  pub first : List (List Field)

-- the conditions on a heap that is made
pub record IsSound (h : Shape) : Type 0 where
  pub rows : AreRows h.first
  pub first : IsTrue (are_first_rows h.first)
  pub fit : length h.first ≤ h.cells
  pub few : h.cells ≤ greatest_cells

-- the opening state, with the mutators' rooms
abbrev pub start : Shape → List ℕ → State
start h rooms = opening h.cells rooms h.first
