-- What is asked of a trail's marks: reads that gave these values and writes that found these, in
-- this order.
-- Source: this project's.
use Rattle.std.specs.Prelude.{ℕ, ◌≡◌, List, [], ◌∷◌, ◌++◌}
use Rattle.cell_words.specs.declared.fields.Field.{Field}
use Rattle.trails.specs.Marks.{Mark, saw, wrote, looked, tried}

pub data Ask : Type 0 where
  -- some read gave this
  gave : Field → Ask
  -- a read of this field of this cell gave this
  gave_at : (cell field : ℕ) → Field → Ask
  -- a write of the new value over the old one, into this field of this cell, found this there
  wrote_at : (cell field : ℕ) → (old new found : Field) → Ask

abbrev pub Meets : Ask → Mark → Type 0
Meets (gave value) (saw cell field found) = found ≡ value
Meets (gave value) (wrote cell field old new found) = ⊥
Meets (gave value) (looked control) = ⊥
Meets (gave value) (tried cell colour) = ⊥
Meets (gave_at cell field value) (saw other place found) = (other ≡ cell) × (place ≡ field) × (found
    ≡ value)
Meets (gave_at cell field value) (wrote other place old new found) = ⊥
Meets (gave_at cell field value) (looked control) = ⊥
Meets (gave_at cell field value) (tried other colour) = ⊥
Meets (wrote_at cell field old new value) (saw other place found) = ⊥
Meets (wrote_at cell field old new value) (wrote other place before after found) =
    (other ≡ cell) × (place ≡ field) × (before ≡ old) × (after ≡ new) × (found ≡ value)
Meets (wrote_at cell field old new value) (looked control) = ⊥
Meets (wrote_at cell field old new value) (tried other colour) = ⊥

-- marks among these, one for each ask and in the asks' order, meet the asks
pub data InOrder : List Ask → List Mark → Type 0 where
  nothing : {marks : List Mark} → InOrder [] marks
  pass : {asks : List Ask} {mark : Mark} {marks : List Mark} → InOrder asks marks
      → InOrder asks (mark ∷ marks)
  here : {ask : Ask} {asks : List Ask} {mark : Mark} {marks : List Mark} → Meets ask mark
      → InOrder asks marks
      → InOrder (ask ∷ asks) (mark ∷ marks)

-- the marks only grew at their end
pub record Grown (old new : List Mark) : Type 0 where
  pub added : List Mark
  pub is : new ≡ old ++ added

-- they grew, and what was added meets the asks in order
pub record Shows (asks : List Ask) (old new : List Mark) : Type 0 where
  pub added : List Mark
  pub is : new ≡ old ++ added
  pub shown : InOrder asks added
