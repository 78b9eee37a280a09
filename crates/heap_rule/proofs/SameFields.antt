-- Fields that are one, as a write compares them.
use Rattle.std.proofs.Common.{◌≡◌, ℕ, true, refl, ◌∙◌, ap}
use Rattle.std.proofs.lemmas.Bool.{eq-eqb}
use Rattle.cell_words.specs.declared.fields.Field.{Field}
use Rattle.cell_words.specs.declared.fields.Field.TheVariants as field
use Rattle.core_machine.specs.Words.{same_field}

same_self : (value : Field) → same_field value value ≡ true
same_self field.Null = refl
same_self (field.Num n) = eq-eqb n n refl
same_self (field.Cell c) = eq-eqb c c refl

pub same_value : (value other : Field) → value ≡ other → same_field value other ≡ true
same_value value other is = ap (λ (x : Field). same_field x other) is ∙ same_self other

pub same_cell : (value : Field) (c : ℕ) → value ≡ field.Cell c
    → same_field value (field.Cell c) ≡ true
same_cell value c is = same_value value (field.Cell c) is
