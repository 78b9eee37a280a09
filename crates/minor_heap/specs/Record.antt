-- The five fields of a record, from their kinds and words.
-- Source: this project's layout of a record.
use Rattle.std.specs.Prelude.{ℕ, ◌≡◌, ◌<◌, ◌^◌, List, [], ◌∷◌, length}
use Rattle.minor_heap.specs.declared.fields.MinorField.{MinorField}
use Rattle.minor_heap.specs.declared.fields.MinorField.TheVariants as field
use Rattle.minor_heap.specs.declared.record.FieldKind.{FieldKind}
use Rattle.minor_heap.specs.declared.record.FieldKind.TheVariants as kind

abbrev pub kind_of : MinorField → FieldKind
kind_of field.Null = kind.Null
kind_of (field.Num n) = kind.Num
kind_of (field.Minor r) = kind.Minor
kind_of (field.Shared place) = kind.Shared

abbrev pub word_of : MinorField → ℕ
word_of field.Null = 0
word_of (field.Num n) = n
word_of (field.Minor r) = r.number
word_of (field.Shared place) = place

abbrev pub field_of : FieldKind → ℕ → MinorField
field_of kind.Null word = field.Null
field_of kind.Num word = field.Num word
field_of kind.Minor word = field.Minor record { number = word }
field_of kind.Shared word = field.Shared word

-- what a field names is there: of these records, and of the owner's first places
abbrev pub IsWithin : ℕ → ℕ → MinorField → Type 0
IsWithin records places field.Null = Unit {0}
IsWithin records places (field.Num n) = n < 2 ^ 62
IsWithin records places (field.Minor r) = r.number < records
IsWithin records places (field.Shared place) = place < places

-- the word of a record is its number
abbrev pub IsNumbered : FieldKind → ℕ → Type 0
IsNumbered kind.Null word = Unit {0}
IsNumbered kind.Num word = Unit {0}
IsNumbered kind.Minor word = word < 2 ^ 32
IsNumbered kind.Shared word = Unit {0}

abbrev pub fields_of : List FieldKind → List ℕ → List MinorField
fields_of [] words = []
fields_of (k ∷ ks) [] = []
fields_of (k ∷ ks) (w ∷ ws) = field_of k w ∷ fields_of ks ws

abbrev pub AreNumbered : List FieldKind → List ℕ → Type 0
AreNumbered [] words = Unit {0}
AreNumbered (k ∷ ks) [] = Unit {0}
AreNumbered (k ∷ ks) (w ∷ ws) = IsNumbered k w × AreNumbered ks ws

pub record IsPacked (kinds : List FieldKind) (words : List ℕ) : Type 0 where
  pub five : length kinds ≡ 5
  pub numbered : AreNumbered kinds words
