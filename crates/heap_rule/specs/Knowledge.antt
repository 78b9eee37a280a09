-- What it means that a mutator knows something of a cell: it is so, and no event of another changes
-- it. Raw and fresh cells are told apart, though of both the payload is known: a fill needs a raw
-- target, and what a write names has to be sealed.
-- Source: this project's.
use Rattle.std.specs.Prelude.{ℕ, ◌≡◌, ◌≢◌, ◌<◌, Bool, true, List, length, slice_index_or, Option}
use Rattle.std.specs.Prelude.{Some, None}
use Rattle.cell_words.specs.declared.fields.Field.{Field}
use Rattle.cell_words.specs.declared.fields.Field.TheVariants as field
use Rattle.cell_words.specs.Term.{Term}
use Rattle.core_machine.specs.Words.{is_box_kind}
use Rattle.heap_rule.specs.declared.known.Known.{Known}
use Rattle.heap_rule.specs.declared.known.Known.TheVariants as knows
use Rattle.heap_rule.specs.Lore.{Terms, entry_of, Plain}

-- these are the five fields of the payload
pub record ArePayload (fields : List Field) (row : ℕ → Field) : Type 0 where
  pub five : length fields ≡ 5
  pub each : (f : ℕ) → f < 5 → row f ≡ slice_index_or fields f field.Null

-- the fixed fields of the payload have these terms, as far as they are told
abbrev pub FixedAreTold : (ℕ → Bool) → List (Option Term) → Terms → (ℕ → Field) → Type 0
FixedAreTold fixed told terms row = (f : ℕ) (t : Term) → f < 5 → fixed f ≡ true
    → slice_index_or told f None ≡ Some t → entry_of terms (row f) ≡ Plain t

-- What is so where mutator i knows this of cell x, which has these fields and this term, and is
-- fresh for this mutator or for none. It takes the parts that it reads of a heap.
abbrev pub KnownAt : (ℕ → Bool) → Terms → (ℕ → Field) → Option Term → Option ℕ → ℕ → ℕ → Known
    → Type 0
KnownAt fixed terms row term fresh i x knows.Nothing = Unit {0}
KnownAt fixed terms row term fresh i x (knows.Raw fields) =
    (row 5 ≡ field.Null) × (fresh ≡ Some i) × ArePayload fields row
KnownAt fixed terms row term fresh i x (knows.Fresh fields) =
    (is_box_kind (row 5) ≡ true) × (fresh ≡ Some i) × ArePayload fields row
KnownAt fixed terms row term fresh i x (knows.Record t) = (row 5 ≡ field.Num 1) × (term ≡ Some t)
KnownAt fixed terms row term fresh i x (knows.Boxed told) =
    (x ≢ 0) × (is_box_kind (row 5) ≡ true) × (fresh ≡ None) × FixedAreTold fixed told terms row
