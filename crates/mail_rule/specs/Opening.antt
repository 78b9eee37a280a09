-- What a mailbox opens with: the anchor, and a box at position 0, before the first item.
-- Source: this project's.
use Rattle.std.specs.Prelude.{◌≡◌, ◌≤◌, List, [], ◌∷◌, None}
use Rattle.cell_words.specs.declared.fields.Field.{Field}
use Rattle.cell_words.specs.declared.fields.Field.TheVariants as field
use Rattle.run_limits.specs.declared.TheConstants.{MOST_CLIENTS}
use Rattle.heap_rule.specs.Lore.{Terms}
use Rattle.heap_rule.specs.Shape.{Shape}

abbrev pub anchor_row : List Field
anchor_row =
    field.Cell 1 ∷ field.Null ∷ field.Null ∷ field.Null ∷ field.Null ∷ field.Num 2 ∷ []

abbrev pub item_row : List Field
item_row = field.Num 0 ∷ field.Num 0 ∷ field.Num 0 ∷ field.Null ∷ field.Null ∷ field.Num 2 ∷ []

abbrev pub first_rows : List (List Field)
first_rows = anchor_row ∷ item_row ∷ []

-- there is no record among them
abbrev pub first_terms : Terms
first_terms = λ x. None

-- a heap that opens so, whatever its setting
pub record OpensMail (h : Shape) : Type 0 where
  pub first : h.first ≡ first_rows
  pub few : h.mutators ≤ MOST_CLIENTS
