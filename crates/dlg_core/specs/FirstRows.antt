-- The rows that a heap may open with: sealed, the anchor a box, and naming nobody but each other.
-- Source: this project's.
use Rattle.std.specs.Prelude.{ℕ, ◌≡◌, ◌<◌, ◌^◌, Bool, true, false, ◌&&◌, ◌||◌, ◌==◌, nat_lt, List}
use Rattle.std.specs.Prelude.{length, slice_index_or}
use Rattle.std.specs.List.{list_all}
use Rattle.cell_words.specs.declared.fields.Field.{Field}
use Rattle.cell_words.specs.declared.fields.Field.TheVariants as field
use Rattle.core_machine.specs.State.{row_in, field_in}
use Rattle.core_machine.specs.Words.{is_box_kind}

-- the value may stand among so many first rows: a cell is one of them
abbrev pub is_first_value : ℕ → Field → Bool
is_first_value count field.Null = true
is_first_value count (field.Num n) = nat_lt n (2 ^ 62)
is_first_value count (field.Cell c) = nat_lt c count

-- the kind field is a record's or a box's
abbrev pub is_sealed_kind : Field → Bool
is_sealed_kind field.Null = false
is_sealed_kind (field.Num n) = (n == 1) || (n == 2)
is_sealed_kind (field.Cell c) = false

abbrev pub is_first_row : ℕ → List Field → Bool
is_first_row count row = list_all (is_first_value count) row && is_sealed_kind
    (slice_index_or row 5 field.Null)

-- the rows may be a heap's first ones
abbrev pub are_first_rows : List (List Field) → Bool
are_first_rows first =
    nat_lt 0 (length first) && is_box_kind (field_in first 0 5) && list_all
    (is_first_row (length first)) first

-- each row has six fields
abbrev pub AreRows : List (List Field) → Type 0
AreRows first = (c : ℕ) → c < length first → length (row_in first c) ≡ 6
