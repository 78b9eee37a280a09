-- No two layouts fit one cell: its kind tells boxes from records, and whether its first field is a
-- cell or a number, and its third a number, tells which box or record it is.
use Rattle.std.proofs.Common.{◌≡◌, ◌==◌, ◌<◌, ◌∙◌, ℕ, zero, suc, Bool, true, false, Some}
use Rattle.std.proofs.Common.{refl, sym, ap, arith}
use Rattle.std.proofs.lemmas.Bool.{eqb-true, ne_eqb}
use Rattle.cell_words.specs.declared.fields.Field.{Field}
use Rattle.cell_words.specs.declared.fields.Field.TheVariants as field
use Rattle.core_machine.specs.Words.{is_box_kind, is_cell}
use Rattle.heap_census.specs.declared.layouts.Role.{Role}
use Rattle.heap_census.specs.declared.layouts.Role.TheVariants as role
use Rattle.heap_census.specs.Layouts.{fits, gives, part_of}

-- each field is one of the role's layout
abbrev pub HasShape : Role → (ℕ → Field) → Type 0
HasShape r row = (i : ℕ) → i < 6 → fits (part_of r i) (row i) ≡ true

abbrev is_number : Field → Bool
is_number field.Null = false
is_number (field.Num n) = true
is_number (field.Cell c) = false

-- a box has the kind of one, and a record has another

boxed : (value : Field) → fits (part_of role.Version 5) value ≡ true → is_box_kind value ≡ true
boxed field.Null is = absurd cc
boxed (field.Num n) is = is
boxed (field.Cell c) is = absurd cc

one_kind : (n : ℕ) → (n == 1) ≡ true → (n == 2) ≡ false
one_kind n is = let one = eqb-true n 1 is in ne_eqb n 2 (λ two. omega (arith, one, two))

not_boxed : (value : Field) → fits (part_of role.Node 5) value ≡ true → is_box_kind value ≡ false
not_boxed field.Null is = refl
not_boxed (field.Num n) is = one_kind n is
not_boxed (field.Cell c) is = refl

-- the first field of an anchor is a cell, that of a version or a text is a number, and that of a
-- node or an entry is none

cell_there : (value : Field) → fits (part_of role.Anchor 0) value ≡ true → is_cell value ≡ true
cell_there field.Null is = absurd cc
cell_there (field.Num n) is = absurd cc
cell_there (field.Cell c) is = refl

no_cell : (value : Field) → fits (part_of role.Version 0) value ≡ true → is_cell value ≡ false
no_cell field.Null is = refl
no_cell (field.Num n) is = refl
no_cell (field.Cell c) is = absurd cc

number_there : (value : Field) → fits (part_of role.Text 0) value ≡ true → is_number value ≡ true
number_there field.Null is = absurd cc
number_there (field.Num n) is = refl
number_there (field.Cell c) is = absurd cc

no_text : (value : Field) → fits (part_of role.Node 0) value ≡ true → is_number value ≡ false
no_text field.Null is = refl
no_text (field.Num n) is = absurd cc
no_text (field.Cell c) is = refl

no_name : (value : Field) → fits (part_of role.Entry 0) value ≡ true → is_number value ≡ false
no_name field.Null is = refl
no_name (field.Num n) is = absurd cc
no_name (field.Cell c) is = refl

-- nor is the third field of an entry

no_entries : (value : Field) → fits (part_of role.Entry 2) value ≡ true
    → is_number value ≡ false
no_entries field.Null is = refl
no_entries (field.Num n) is = absurd cc
no_entries (field.Cell c) is = refl

-- the role by the kind, the first field and the third
abbrev role_by : (box cell first third : Bool) → Role
role_by true true first third = role.Anchor
role_by true false first third = role.Version
role_by false cell true third = role.Text
role_by false cell false true = role.Node
role_by false cell false false = role.Entry

abbrev role_in : (ℕ → Field) → Role
role_in row =
    role_by (is_box_kind (row 5)) (is_cell (row 0)) (is_number (row 0)) (is_number (row 2))

told : (row : ℕ → Field) (box cell first third : Bool) → is_box_kind (row 5) ≡ box
    → is_cell (row 0) ≡ cell → is_number (row 0) ≡ first → is_number (row 2) ≡ third
    → role_in row ≡ role_by box cell first third
told row box cell first third b c f t =
    ap (λ (x : Bool). role_by x (is_cell (row 0)) (is_number (row 0)) (is_number (row 2))) b
    ∙ ap (λ (x : Bool). role_by box x (is_number (row 0)) (is_number (row 2))) c
    ∙ ap (λ (x : Bool). role_by box cell x (is_number (row 2))) f
    ∙ ap (λ (x : Bool). role_by box cell first x) t

role_told : (r : Role) (row : ℕ → Field) → HasShape r row → role_in row ≡ r
role_told role.Anchor row is =
    told row true true (is_number (row 0)) (is_number (row 2))
    (boxed (row 5) (is 5 (omega arith))) (cell_there (row 0) (is 0 (omega arith))) refl refl
role_told role.Version row is =
    told row true false (is_number (row 0)) (is_number (row 2))
    (boxed (row 5) (is 5 (omega arith))) (no_cell (row 0) (is 0 (omega arith))) refl refl
role_told role.Node row is =
    told row false (is_cell (row 0)) false true (not_boxed (row 5) (is 5 (omega arith))) refl
    (no_text (row 0) (is 0 (omega arith))) (number_there (row 2) (is 2 (omega arith)))
role_told role.Entry row is =
    told row false (is_cell (row 0)) false false (not_boxed (row 5) (is 5 (omega arith))) refl
    (no_name (row 0) (is 0 (omega arith))) (no_entries (row 2) (is 2 (omega arith)))
role_told role.Text row is =
    told row false (is_cell (row 0)) true (is_number (row 2))
    (not_boxed (row 5) (is 5 (omega arith))) refl
    (number_there (row 0) (is 0 (omega arith))) refl

pub one_layout : (r q : Role) (row : ℕ → Field) → HasShape r row → HasShape q row → r ≡ q
one_layout r q row is also = sym (role_told r row is) ∙ role_told q row also

-- a field of a layout that may be a cell gives a role
pub cell_gives : (r : Role) (i c : ℕ) → fits (part_of r i) (field.Cell c) ≡ true
    → (q : Role) × (gives r i ≡ Some q)
cell_gives role.Anchor zero c is = (role.Version, refl)
cell_gives role.Anchor (suc zero) c is = absurd cc
cell_gives role.Anchor (suc (suc zero)) c is = absurd cc
cell_gives role.Anchor (suc (suc (suc zero))) c is = absurd cc
cell_gives role.Anchor (suc (suc (suc (suc zero)))) c is = absurd cc
cell_gives role.Anchor (suc (suc (suc (suc (suc zero))))) c is = absurd cc
cell_gives role.Anchor (suc (suc (suc (suc (suc (suc i)))))) c is = absurd cc
cell_gives role.Version zero c is = absurd cc
cell_gives role.Version (suc zero) c is = (role.Node, refl)
cell_gives role.Version (suc (suc zero)) c is = (role.Version, refl)
cell_gives role.Version (suc (suc (suc zero))) c is = absurd cc
cell_gives role.Version (suc (suc (suc (suc zero)))) c is = absurd cc
cell_gives role.Version (suc (suc (suc (suc (suc zero))))) c is = absurd cc
cell_gives role.Version (suc (suc (suc (suc (suc (suc i)))))) c is = absurd cc
cell_gives role.Node zero c is = (role.Text, refl)
cell_gives role.Node (suc zero) c is = (role.Entry, refl)
cell_gives role.Node (suc (suc zero)) c is = absurd cc
cell_gives role.Node (suc (suc (suc zero))) c is = absurd cc
cell_gives role.Node (suc (suc (suc (suc zero)))) c is = absurd cc
cell_gives role.Node (suc (suc (suc (suc (suc zero))))) c is = absurd cc
cell_gives role.Node (suc (suc (suc (suc (suc (suc i)))))) c is = absurd cc
cell_gives role.Entry zero c is = (role.Text, refl)
cell_gives role.Entry (suc zero) c is = (role.Node, refl)
cell_gives role.Entry (suc (suc zero)) c is = (role.Entry, refl)
cell_gives role.Entry (suc (suc (suc zero))) c is = (role.Entry, refl)
cell_gives role.Entry (suc (suc (suc (suc zero)))) c is = absurd cc
cell_gives role.Entry (suc (suc (suc (suc (suc zero))))) c is = absurd cc
cell_gives role.Entry (suc (suc (suc (suc (suc (suc i)))))) c is = absurd cc
cell_gives role.Text zero c is = absurd cc
cell_gives role.Text (suc zero) c is = absurd cc
cell_gives role.Text (suc (suc zero)) c is = absurd cc
cell_gives role.Text (suc (suc (suc zero))) c is = absurd cc
cell_gives role.Text (suc (suc (suc (suc zero)))) c is = (role.Text, refl)
cell_gives role.Text (suc (suc (suc (suc (suc zero))))) c is = absurd cc
cell_gives role.Text (suc (suc (suc (suc (suc (suc i)))))) c is = absurd cc
