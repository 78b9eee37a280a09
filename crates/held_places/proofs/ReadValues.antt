-- Which field a value that was read stands for, and which cell a read holds last.
use Rattle.std.proofs.Common.{◌≡◌, ℕ, [], ◌∷◌, ◌++◌, List, length, get_or}
use Rattle.std.proofs.Common.{◌⊎◌, inl, inr, refl, sym, ◌∙◌, ap}
use Rattle.std.proofs.lemmas.List.{get_or_push}
use Rattle.cell_words.specs.declared.fields.Field.{Field}
use Rattle.cell_words.specs.declared.fields.Field.TheVariants as field
use Rattle.heap_rule.specs.Asks.{target}
use Rattle.heap_rule.proofs.Reading.{cell_there}
use Rattle.mutator_events.specs.declared.values.Value.{Value}
use Rattle.mutator_events.specs.declared.values.Value.TheVariants as values
use Rattle.mutator_events.specs.Values.{value_found}
use Rattle.mutator_seat.specs.Bound.{Bound, held_cells}
use Rattle.held_places.proofs.Going.{many_cells}

pub found_held : (many place : ℕ) (found : Field) → values.Held place ≡ value_found many found
    → (cell : ℕ) × ((found ≡ field.Cell cell) × (place ≡ many))
found_held many place field.Null is = absurd cc
found_held many place (field.Num n) is = absurd cc
found_held many place (field.Cell c) is = (c, (refl, cc))

pub found_number : (many number : ℕ) (found : Field) → values.Num number ≡ value_found many found
    → found ≡ field.Num number
found_number many number field.Null is = absurd cc
found_number many number (field.Num n) is = let same : n ≡ number = cc in ap field.Num same
found_number many number (field.Cell c) is = absurd cc

pub found_null : (many : ℕ) (found : Field) → values.Null ≡ value_found many found
    → found ≡ field.Null
found_null many field.Null is = refl
found_null many (field.Num n) is = absurd cc
found_null many (field.Cell c) is = absurd cc

-- the cell that was held last
pub last_held : {P : Type 0} (a b : Bound P) (cell : ℕ) → held_cells b ≡ held_cells a ++ cell ∷ []
    → target b.seat.me (length a.seat.me.own.held) ≡ cell
last_held a b cell is =
    sym (cell_there b.seat.me.own.held (length a.seat.me.own.held))
    ∙ ap (λ (cs : List ℕ). get_or cs (length a.seat.me.own.held) 0) is
    ∙ get_or_push (held_cells a) cell 0 (length a.seat.me.own.held) (many_cells a)

-- A value that is read of a field is of the field's kind.

pub held_alone : (many cell : ℕ) (found : Field) (r : Value) → r ≡ value_found many found
    → found ≡ field.Cell cell → (r ≡ values.Null) ⊎ ((n : ℕ) × (r ≡ values.Num n)) → ⊥
held_alone many cell found r is word (inl none) =
    let e : values.Held many ≡ values.Null = sym (ap (value_found many) word) ∙ sym is ∙ none in cc
held_alone many cell found r is word (inr (n, other)) =
    let e : values.Held many ≡ values.Num n = sym (ap (value_found many) word) ∙ sym is ∙ other in
    cc

pub number_alone : (many number : ℕ) (found : Field) (r : Value) → r ≡ value_found many found
    → found ≡ field.Num number → (r ≡ values.Null) ⊎ ((p : ℕ) × (r ≡ values.Held p)) → ⊥
number_alone many number found r is word (inl none) =
    let e : values.Num number ≡ values.Null = sym (ap (value_found many) word) ∙ sym is ∙ none in
    cc
number_alone many number found r is word (inr (p, other)) =
    let e : values.Num number ≡ values.Held p = sym (ap (value_found many) word) ∙ sym is ∙ other
    in cc
