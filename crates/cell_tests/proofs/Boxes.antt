-- Heaps that open with boxes only: none of their cells has a term.
use Rattle.std.proofs.Common.{◌∷◌, zero, suc, List, [], None, refl}
use Rattle.cell_words.specs.declared.fields.Field.{Field}
use Rattle.cell_words.specs.declared.fields.Field.TheVariants as field
use Rattle.heap_rule.specs.Opening.{FirstTerms}

-- a box with these two fields
abbrev box : Field → Field → List Field
box one two = one ∷ two ∷ field.Null ∷ field.Null ∷ field.Null ∷ field.Num 2 ∷ []

pub one_box : (one two : Field) → FirstTerms (box one two ∷ []) (λ cell. None)
one_box one two zero = refl
one_box one two (suc cell) = refl

pub two_boxes : (one two three four : Field)
    → FirstTerms (box one two ∷ box three four ∷ []) (λ cell. None)
two_boxes one two three four zero = refl
two_boxes one two three four (suc zero) = refl
two_boxes one two three four (suc (suc cell)) = refl
