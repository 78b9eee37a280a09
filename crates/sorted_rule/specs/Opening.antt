-- What a heap whose fields are sorted opens with: the anchor alone, with nothing in its fields.
-- Source: this project's.
use Rattle.std.specs.Prelude.{List, [], ◌∷◌, None}
use Rattle.cell_words.specs.declared.fields.Field.{Field}
use Rattle.cell_words.specs.declared.fields.Field.TheVariants as field
use Rattle.heap_rule.specs.Lore.{Terms}

abbrev pub first_rows : List (List Field)
first_rows =
    (field.Null ∷ field.Null ∷ field.Null ∷ field.Null ∷ field.Null ∷ field.Num 2 ∷ []) ∷ []

-- there is no record among them
abbrev pub first_terms : Terms
first_terms = λ x. None
