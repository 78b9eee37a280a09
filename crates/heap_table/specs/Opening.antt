-- The words of a heap at its opening, in the order in which they are laid.
-- Source: this project's.
use Rattle.std.specs.Prelude.{ℕ, ◌*◌, ◌-◌, List, [], ◌∷◌, ◌++◌, length, map, replicate}
use Rattle.cell_words.specs.Colour.{pack_colour_of}
use Rattle.cell_words.specs.Control.{pack_control_of}
use Rattle.cell_words.specs.Field.{pack_field_of}
use Rattle.cell_words.specs.Presence.{pack_presence_of}
use Rattle.cell_words.specs.declared.colours.Colour.TheVariants as colour
use Rattle.cell_words.specs.declared.fields.Field.{Field}
use Rattle.core_machine.specs.State.{State, opening_control, opening_presence}
use Rattle.heap_rule.specs.Boxes.{Map, boxes_of}
use Rattle.heap_rule.specs.Lore.{Terms}
use Rattle.heap_rule.specs.Opening.{FirstTerms, opening_lore, opening_passes, opening_rooms}
use Rattle.heap_rule.specs.Shape.{Shape, start}

-- the words of a first row: white, and its fields
abbrev pub row_words : List Field → List ℕ
row_words row = pack_colour_of colour.White ∷ map pack_field_of row

abbrev pub rows_words : List (List Field) → List ℕ
rows_words [] = []
rows_words (row ∷ rows) = row_words row ++ rows_words rows

-- the control's word, the mutators', and those of the first rows; all others are zero
abbrev pub opening_words : Shape → List ℕ
opening_words h =
    pack_control_of opening_control ∷ (replicate h.mutators (pack_presence_of opening_presence)
    ++ (rows_words h.first ++ replicate (7 * (h.cells - length h.first)) 0))

-- the state that a heap of this shape opens in
abbrev pub opening_state : Shape → State
opening_state h = start h (opening_rooms h.mutators)

-- the first rows have terms, and the client's rule stands on the opening boxes and passes
abbrev pub Opens : {P : Type 0} → (ℕ → ℕ → P) → (Map → List P → Type 0) → Shape → Type 0
Opens opens holds h =
    (terms : Terms) × FirstTerms h.first terms × holds
    (boxes_of (opening_state h) (opening_lore terms h.mutators)) (opening_passes opens h)
