-- What a look at each cell with a role shows of a heap.
use Rattle.std.proofs.Common.{◌≡◌, ◌<◌, ◌+◌, inl, inr, ℕ, true, false}
use Rattle.std.proofs.Common.{refl, subst, sym, arith}
use Rattle.std.specs.Prelude.{Bool, ◌&&◌}
use Rattle.std.proofs.lemmas.Bool.{and_cases, and_parts, cases_lt, eqb-true}
use Rattle.cell_words.specs.declared.fields.Field.{Field}
use Rattle.cell_words.specs.declared.fields.Field.TheVariants as field
use Rattle.heap_census.specs.declared.flags.Roles.{Roles}
use Rattle.heap_census.specs.declared.layouts.Part.TheVariants as part
use Rattle.heap_census.specs.declared.layouts.Role.{Role}
use Rattle.heap_census.specs.declared.layouts.Role.TheVariants as role
use Rattle.heap_census.specs.Fit.{FitsAs, Misfits}
use Rattle.heap_census.specs.Flags.{has_role}
use Rattle.heap_census.specs.Heap.{Heap}
use Rattle.heap_census.specs.Layouts.{fits, part_of}

-- No two layouts fit one cell.

number_names : (r : Role) (f : Field) → fits part.Number f ≡ true → fits (part.Names r) f ≡ true
    → ⊥
number_names r field.Null is also = absurd cc
number_names r (field.Num n) is also = absurd cc
number_names r (field.Cell c) is also = absurd cc

number_may : (r : Role) (f : Field) → fits part.Number f ≡ true → fits (part.MayName r) f ≡ true
    → ⊥
number_may r field.Null is also = absurd cc
number_may r (field.Num n) is also = absurd cc
number_may r (field.Cell c) is also = absurd cc

record_boxed : (f : Field) → fits part.Record f ≡ true → fits part.Boxed f ≡ true → ⊥
record_boxed field.Null is also = absurd cc
record_boxed (field.Num n) is also =
    let one = eqb-true n 1 is in
    let two = eqb-true n 2 also in
    absurd (omega (arith, one, two))
record_boxed (field.Cell c) is also = absurd cc

abbrev Fit : Role → (ℕ → Field) → Type 0
Fit r f = (i : ℕ) → i < 6 → fits (part_of r i) (f i) ≡ true

pub two_layouts : (r q : Role) (f : ℕ → Field) → Fit r f → Fit q f → r ≡ q
two_layouts role.Anchor role.Anchor f a b = refl
two_layouts role.Version role.Version f a b = refl
two_layouts role.Node role.Node f a b = refl
two_layouts role.Entry role.Entry f a b = refl
two_layouts role.Text role.Text f a b = refl
two_layouts role.Anchor role.Version f a b =
    absurd (number_names role.Version (f 0) (b 0 (omega arith)) (a 0 (omega arith)))
two_layouts role.Anchor role.Node f a b =
    absurd (record_boxed (f 5) (b 5 (omega arith)) (a 5 (omega arith)))
two_layouts role.Anchor role.Entry f a b =
    absurd (record_boxed (f 5) (b 5 (omega arith)) (a 5 (omega arith)))
two_layouts role.Anchor role.Text f a b =
    absurd (record_boxed (f 5) (b 5 (omega arith)) (a 5 (omega arith)))
two_layouts role.Version role.Anchor f a b =
    absurd (number_names role.Version (f 0) (a 0 (omega arith)) (b 0 (omega arith)))
two_layouts role.Version role.Node f a b =
    absurd (record_boxed (f 5) (b 5 (omega arith)) (a 5 (omega arith)))
two_layouts role.Version role.Entry f a b =
    absurd (record_boxed (f 5) (b 5 (omega arith)) (a 5 (omega arith)))
two_layouts role.Version role.Text f a b =
    absurd (record_boxed (f 5) (b 5 (omega arith)) (a 5 (omega arith)))
two_layouts role.Node role.Anchor f a b =
    absurd (record_boxed (f 5) (a 5 (omega arith)) (b 5 (omega arith)))
two_layouts role.Node role.Version f a b =
    absurd (record_boxed (f 5) (a 5 (omega arith)) (b 5 (omega arith)))
two_layouts role.Node role.Entry f a b =
    absurd (number_may role.Entry (f 2) (a 2 (omega arith)) (b 2 (omega arith)))
two_layouts role.Node role.Text f a b =
    absurd (number_may role.Text (f 0) (b 0 (omega arith)) (a 0 (omega arith)))
two_layouts role.Entry role.Anchor f a b =
    absurd (record_boxed (f 5) (a 5 (omega arith)) (b 5 (omega arith)))
two_layouts role.Entry role.Version f a b =
    absurd (record_boxed (f 5) (a 5 (omega arith)) (b 5 (omega arith)))
two_layouts role.Entry role.Node f a b =
    absurd (number_may role.Entry (f 2) (b 2 (omega arith)) (a 2 (omega arith)))
two_layouts role.Entry role.Text f a b =
    absurd (number_names role.Text (f 0) (b 0 (omega arith)) (a 0 (omega arith)))
two_layouts role.Text role.Anchor f a b =
    absurd (record_boxed (f 5) (a 5 (omega arith)) (b 5 (omega arith)))
two_layouts role.Text role.Version f a b =
    absurd (record_boxed (f 5) (a 5 (omega arith)) (b 5 (omega arith)))
two_layouts role.Text role.Node f a b =
    absurd (number_may role.Text (f 0) (a 0 (omega arith)) (b 0 (omega arith)))
two_layouts role.Text role.Entry f a b =
    absurd (number_names role.Text (f 0) (a 0 (omega arith)) (b 0 (omega arith)))

-- one field more is fit
pub shape_more : (h : Heap) (r : Role) (c i : ℕ)
    → ((k : ℕ) → k < i → fits (part_of r k) (h.field c k) ≡ true)
    → fits (part_of r i) (h.field c i) ≡ true
    → (k : ℕ) → k < i + 1 → fits (part_of r k) (h.field c k) ≡ true
shape_more h r c i all here k lt = elim (cases_lt k i) [
  | inl below ↦ all k below
  | inr past ↦ let same : k ≡ i = omega (arith, lt, past) in
      subst (λ n. fits (part_of r n) (h.field c n) ≡ true) (sym same) here
]

-- five tests, made all at once

all_five : (a v n e t : Bool) → ((a && v) && ((n && e) && t)) ≡ true
    → (a ≡ true) × (v ≡ true) × (n ≡ true) × (e ≡ true) × (t ≡ true)
all_five a v n e t is =
    let both = and_parts (a && v) ((n && e) && t) is in
    let boxes = and_parts a v both.0 in
    let records = and_parts (n && e) t both.1 in
    let nodes = and_parts n e records.0 in
    (boxes.0, boxes.1, nodes.0, nodes.1, records.1)

one_of_five : (P : Type 0) (a v n e t : Bool) → ((a && v) && ((n && e) && t)) ≡ false
    → (a ≡ false → P) → (v ≡ false → P) → (n ≡ false → P) → (e ≡ false → P) → (t ≡ false → P) → P
one_of_five P a v n e t is in_a in_v in_n in_e in_t = elim (and_cases (a && v) ((n && e) && t) is) [
  | inl boxes ↦ elim (and_cases a v boxes) [ inl is_a ↦ in_a is_a | inr is_v ↦ in_v is_v ]
  | inr records ↦ elim (and_cases (n && e) t records) [
    | inl nodes ↦ elim (and_cases n e nodes) [ inl is_n ↦ in_n is_n | inr is_e ↦ in_e is_e ]
    | inr is_t ↦ in_t is_t
  ]
]

-- what each test shows of its role
pub record Tested (h : Heap) (m : Roles) (c : ℕ) (r : Role) (is : Bool) : Type 0 where
  pub fit : is ≡ true → has_role m r ≡ true → FitsAs h r c
  pub misfit : is ≡ false → Misfits h m c

pub five_fit : (h : Heap) (m : Roles) (c : ℕ) (a v n e t : Bool) → Tested h m c role.Anchor a
    → Tested h m c role.Version v → Tested h m c role.Node n → Tested h m c role.Entry e
    → Tested h m c role.Text t → ((a && v) && ((n && e) && t)) ≡ true
    → (r : Role) → has_role m r ≡ true → FitsAs h r c
five_fit h m c a v n e t ta tv tn te tx is role.Anchor = ta.fit (all_five a v n e t is).0
five_fit h m c a v n e t ta tv tn te tx is role.Version = tv.fit (all_five a v n e t is).1
five_fit h m c a v n e t ta tv tn te tx is role.Node = tn.fit (all_five a v n e t is).2
five_fit h m c a v n e t ta tv tn te tx is role.Entry = te.fit (all_five a v n e t is).3
five_fit h m c a v n e t ta tv tn te tx is role.Text = tx.fit (all_five a v n e t is).4

pub five_misfit : (h : Heap) (m : Roles) (c : ℕ) (a v n e t : Bool) → Tested h m c role.Anchor a
    → Tested h m c role.Version v → Tested h m c role.Node n → Tested h m c role.Entry e
    → Tested h m c role.Text t → ((a && v) && ((n && e) && t)) ≡ false → Misfits h m c
five_misfit h m c a v n e t ta tv tn te tx is =
    one_of_five (Misfits h m c) a v n e t is ta.misfit tv.misfit tn.misfit te.misfit tx.misfit
