-- The items after a box, as the fields of a state have them.
-- Source: this project's.
use Rattle.std.specs.Prelude.{ℕ, zero, suc, nat_le, if◌then◌else◌, List, [], ◌∷◌, Option, Some}
use Rattle.std.specs.Prelude.{None}
use Rattle.cell_words.specs.declared.fields.Field.{Field}
use Rattle.cell_words.specs.declared.fields.Field.TheVariants as field
use Rattle.run_limits.specs.declared.TheConstants.{MOST_CLIENTS, MOST_VERSIONS}
use Rattle.closed_heap.specs.Words.{number_in}
use Rattle.core_machine.specs.State.{State, field_of}
use Rattle.mail_rule.specs.declared.items.Item.{Item}

-- the cell that a field names
abbrev pub cell_in : Field → Option ℕ
cell_in field.Null = None
cell_in (field.Num n) = None
cell_in (field.Cell c) = Some c

-- a number as that of a sender, of which there are at most `MOST_CLIENTS`; 0 is nobody's
abbrev pub sender_of : ℕ → ℕ
sender_of n = if nat_le n MOST_CLIENTS then n else 0

abbrev pub item_of : State → ℕ → Item
item_of s cell = record {
  position = number_in (field_of s cell 0);
  sender = sender_of (number_in (field_of s cell 1));
  value = number_in (field_of s cell 2);
}

-- at most so many items, from this box on
abbrev pub rest_of : State → ℕ → Option ℕ → List Item
rest_of s zero at = []
rest_of s (suc n) None = []
rest_of s (suc n) (Some cell) = item_of s cell ∷ rest_of s n (cell_in (field_of s cell 3))

-- those after the box that the anchor names: a mailbox has at most so many items
abbrev pub after_named : State → Option ℕ → List Item
after_named s None = []
after_named s (Some taken) = rest_of s MOST_VERSIONS (cell_in (field_of s taken 3))

abbrev pub rest_in : State → List Item
rest_in s = after_named s (cell_in (field_of s 0 0))
