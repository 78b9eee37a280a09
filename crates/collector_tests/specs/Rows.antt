-- The first rows of these heaps.
-- Source: this project's.
use Rattle.std.specs.Prelude.{ℕ, zero, suc, List, [], ◌∷◌, map}
use Rattle.std.specs.List.{range_with_len}
use Rattle.cell_words.specs.declared.fields.Field.{Field}
use Rattle.cell_words.specs.declared.fields.Field.TheVariants as field
use Rattle.heap_rule.specs.Lore.{Terms}
use Rattle.heap_rule.specs.Opening.{FirstTerms}

-- there are terms for the records among the rows
abbrev pub HaveTerms : List (List Field) → Type 0
HaveTerms first = (terms : Terms) × FirstTerms first terms

-- a row that names one cell, or none
abbrev pub row_of : Field → ℕ → List Field
row_of first kind =
    first ∷ field.Null ∷ field.Null ∷ field.Null ∷ field.Null ∷ field.Num kind ∷ []

-- the anchor names the last of a thousand cells, and each record but the first the one before it
abbrev pub chain_row : ℕ → List Field
chain_row zero = row_of (field.Cell 999) 2
chain_row (suc zero) = row_of field.Null 1
chain_row (suc (suc k)) = row_of (field.Cell (suc k)) 1

abbrev pub chain_rows : List (List Field)
chain_rows = map chain_row (range_with_len 0 1000)

-- the anchor names five records, which name nobody
abbrev pub star_rows : List (List Field)
star_rows =
    (field.Cell 1 ∷ field.Cell 2 ∷ field.Cell 3 ∷ field.Cell 4 ∷ field.Cell 5 ∷ field.Num 2 ∷ [])
    ∷ row_of field.Null 1 ∷ row_of field.Null 1 ∷ row_of field.Null 1 ∷ row_of field.Null 1
    ∷ row_of field.Null 1 ∷ []
