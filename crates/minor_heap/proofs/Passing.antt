-- Marks from the newest record down to the oldest: what is marked is what is reached.
use Rattle.std.proofs.Common.{◌≡◌, ◌⊎◌, ◌↔◌, ℕ, zero, suc, ◌+◌, ◌<◌, ◌≤◌, Bool, true, false, List}
use Rattle.std.proofs.Common.{[], ◌∷◌, length}
use Rattle.std.proofs.Common.{refl, sym, ap, subst, ◌∙◌, arith, inl, inr, ⊎_elim, true≢false}
use Rattle.std.specs.Prelude.{slice_index_or, slice_set}
use Rattle.minor_heap.specs.declared.fields.MinorField.{MinorField}
use Rattle.minor_heap.specs.declared.fields.MinorField.TheVariants as field
use Rattle.minor_heap.specs.declared.fields.MinorRef.{MinorRef}
use Rattle.minor_heap.specs.Nursery.{FitsRecord, IsOrdered, field_at}
use Rattle.minor_heap.specs.Marking.{with_field, with_fields}
use Rattle.minor_heap.specs.Reaches.{Reaches, root, named, IsMarked}
use Rattle.minor_heap.proofs.Terms.{fits_is}

-- One mark.

pub set_kept : (marks : List Bool) (j k : ℕ) → slice_index_or marks j false ≡ true
    → slice_index_or (slice_set marks k true) j false ≡ true
set_kept [] j k e = e
set_kept (m ∷ ms) zero zero e = refl
set_kept (m ∷ ms) zero (suc k) e = e
set_kept (m ∷ ms) (suc j) zero e = e
set_kept (m ∷ ms) (suc j) (suc k) e = set_kept ms j k e

pub set_marks : (marks : List Bool) (k : ℕ) → k < length marks
    → slice_index_or (slice_set marks k true) k false ≡ true
set_marks [] k lt = absurd (omega (arith, lt))
set_marks (m ∷ ms) zero lt = refl
set_marks (m ∷ ms) (suc k) lt = set_marks ms k (omega (arith, lt))

pub set_was : (marks : List Bool) (j k : ℕ) → slice_index_or (slice_set marks k true) j false ≡ true
    → (j ≡ k) ⊎ (slice_index_or marks j false ≡ true)
set_was [] j k e = inr e
set_was (m ∷ ms) zero zero e = inl refl
set_was (m ∷ ms) zero (suc k) e = inr e
set_was (m ∷ ms) (suc j) zero e = inr e
set_was (m ∷ ms) (suc j) (suc k) e =
    ⊎_elim (λ same. inl (ap suc same)) (λ was. inr was) (set_was ms j k e)

pub set_length : (marks : List Bool) (k : ℕ) → length (slice_set marks k true) ≡ length marks
set_length [] k = refl
set_length (m ∷ ms) zero = refl
set_length (m ∷ ms) (suc k) = ap suc (set_length ms k)

-- who is marked stands
pub marked_stands : (marks : List Bool) (k : ℕ) → slice_index_or marks k false ≡ true
    → k < length marks
marked_stands [] k e = absurd (true≢false (sym e))
marked_stands (m ∷ ms) zero e = omega arith
marked_stands (m ∷ ms) (suc k) e = let l = marked_stands ms k e in omega (arith, l)

-- One field.

field_kept : (f : MinorField) (marks : List Bool) (r : MinorRef) → IsMarked marks r
    → IsMarked (with_field f marks) r
field_kept field.Null marks r is = is
field_kept (field.Num n) marks r is = is
field_kept (field.Minor older) marks r is = set_kept marks r.number older.number is
field_kept (field.Shared place) marks r is = is

field_was : (f : MinorField) (marks : List Bool) (r : MinorRef) → IsMarked (with_field f marks) r
    → (f ≡ field.Minor r) ⊎ IsMarked marks r
field_was field.Null marks r is = inr is
field_was (field.Num n) marks r is = inr is
field_was (field.Minor older) marks r is =
    ⊎_elim
    (λ (same : r.number ≡ older.number). inl (λ i. field.Minor record { number = sym same i }))
    (λ was. inr was) (set_was marks r.number older.number is)
field_was (field.Shared place) marks r is = inr is

field_marks : (f : MinorField) (marks : List Bool) (r : MinorRef) → f ≡ field.Minor r
    → r.number < length marks → IsMarked (with_field f marks) r
field_marks f marks r is lt =
    subst (λ (g : MinorField). IsMarked (with_field g marks) r) (sym is)
    (set_marks marks r.number lt)

pub field_length : (f : MinorField) (marks : List Bool) → length (with_field f marks) ≡ length marks
field_length field.Null marks = refl
field_length (field.Num n) marks = refl
field_length (field.Minor older) marks = set_length marks older.number
field_length (field.Shared place) marks = refl

-- The first n fields.

fields_kept : (n : ℕ) (fs : List MinorField) (marks : List Bool) (r : MinorRef) → IsMarked marks r
    → IsMarked (with_fields n fs marks) r
fields_kept zero fs marks r is = is
fields_kept (suc n) fs marks r is =
    field_kept (slice_index_or fs n field.Null) (with_fields n fs marks) r
    (fields_kept n fs marks r is)

pub fields_length : (n : ℕ) (fs : List MinorField) (marks : List Bool)
    → length (with_fields n fs marks) ≡ length marks
fields_length zero fs marks = refl
fields_length (suc n) fs marks =
    field_length (slice_index_or fs n field.Null) (with_fields n fs marks)
    ∙ fields_length n fs marks

-- a number up to another is it or below it
pub split : (a b : ℕ) → a ≤ b → (a ≡ b) ⊎ (a < b)
split zero zero h = inl refl
split zero (suc b) h = inr (omega arith)
split (suc a) zero h = absurd (omega (arith, h))
split (suc a) (suc b) h =
    ⊎_elim (λ e. inl (ap suc e)) (λ l. inr (omega (arith, l))) (split a b (omega (arith, h)))

fields_mark : (n : ℕ) (fs : List MinorField) (marks : List Bool) (i : ℕ) (r : MinorRef) → i < n
    → slice_index_or fs i field.Null ≡ field.Minor r → r.number < length marks
    → IsMarked (with_fields n fs marks) r
fields_mark zero fs marks i r lt is stands = absurd (omega (arith, lt))
fields_mark (suc n) fs marks i r lt is stands =
    let there : r.number < length (with_fields n fs marks) =
    omega (arith, stands, fields_length n fs marks) in
    ⊎_elim
    (λ (same : i ≡ n).
    field_marks (slice_index_or fs n field.Null) (with_fields n fs marks) r
    (ap (λ (k : ℕ). slice_index_or fs k field.Null) (sym same) ∙ is) there)
    (λ (less : i < n).
    field_kept (slice_index_or fs n field.Null) (with_fields n fs marks) r
    (fields_mark n fs marks i r less is stands))
    (split i n (omega (arith, lt)))

pub fields_was : (n : ℕ) (fs : List MinorField) (marks : List Bool) (r : MinorRef)
    → IsMarked (with_fields n fs marks) r
    → ((i : ℕ) × (i < n) × (slice_index_or fs i field.Null ≡ field.Minor r)) ⊎ IsMarked marks r
fields_was zero fs marks r is = inr is
fields_was (suc n) fs marks r is =
    ⊎_elim (λ (names : slice_index_or fs n field.Null ≡ field.Minor r). inl (n, omega arith, names))
    (λ (was : IsMarked (with_fields n fs marks) r). ⊎_elim
    (λ (x : (i : ℕ) × (i < n) × (slice_index_or fs i field.Null ≡ field.Minor r)).
    inl (x.0, omega (arith, x.1), x.2))
    (λ before. inr before) (fields_was n fs marks r was))
    (field_was (slice_index_or fs n field.Null) (with_fields n fs marks) r is)

-- All records, from the newest down.

-- the records from n on had their turn
pub record MarksFrom (records : List (List MinorField)) (IsRoot : MinorRef → Type 0)
    (marks : List Bool) (n : ℕ) : Type 0 where
  pub count : length records ≤ length marks
  pub sound : (r : MinorRef) → IsMarked marks r → Reaches records IsRoot r
  pub roots : (r : MinorRef) → IsRoot r → IsMarked marks r
  pub closed : (r older : MinorRef) (i : ℕ) → i < 5 → n ≤ r.number → IsMarked marks r
      → field_at records r.number i ≡ field.Minor older
      → IsMarked marks older

pub marks_start : (records : List (List MinorField)) (marks : List Bool) → length marks
    ≡ length records
    → MarksFrom records (IsMarked marks) marks (length records)
marks_start records marks count =
    record {
      count = omega (arith, count);
      sound = λ r is. root is;
      roots = λ r is. is;
      closed = λ r older i lt from is names.
          absurd (omega (arith, marked_stands marks r.number is, count, from));
    }

-- the roots alone are marked, and all of them lie below n
pub marks_below : (records : List (List MinorField)) (IsRoot : MinorRef → Type 0)
    (marks : List Bool) (n : ℕ) → length records ≤ length marks
    → ((r : MinorRef) → IsMarked marks r ↔ IsRoot r)
    → ((r : MinorRef) → IsMarked marks r → r.number < n)
    → MarksFrom records IsRoot marks n
marks_below records IsRoot marks n count all below =
    record {
      count = count;
      sound = λ r is. root ((all r).0 is);
      roots = λ r is. (all r).1 is;
      closed = λ r older i lt from is names. let l = below r is in absurd (omega (arith, l, from));
    }

pub marks_passed : (records : List (List MinorField)) (IsRoot : MinorRef → Type 0)
    (marks : List Bool) (m n : ℕ) → n ≡ m + 1
    → slice_index_or marks m false ≡ false → MarksFrom records IsRoot marks n
    → MarksFrom records IsRoot marks m
marks_passed records IsRoot marks m n next unmarked so =
    record {
      count = so.count;
      sound = so.sound;
      roots = so.roots;
      closed = λ r older i lt from is names. ⊎_elim
          (λ (same : m ≡ r.number).
          absurd
          (true≢false
          (sym is ∙ ap (λ (k : ℕ). slice_index_or marks k false) (sym same)
          ∙ unmarked)))
          (λ (more : m < r.number). so.closed r older i lt (omega (arith, more, next)) is names)
          (split m r.number from);
    }

pub marks_named : (records : List (List MinorField)) (IsRoot : MinorRef → Type 0)
    (marks : List Bool) (m n : ℕ) → n ≡ m + 1
    → IsOrdered 0 records → m < length records → slice_index_or marks m false ≡ true
    → MarksFrom records IsRoot marks n
    → MarksFrom records IsRoot (with_fields 5 (slice_index_or records m []) marks) m
marks_named records IsRoot marks m n next ordered stands marked so =
    let fs = slice_index_or records m [] in
    let now = with_fields 5 fs marks in
    let me : MinorRef = record { number = m } in
    let is_older : (i : ℕ) (r : MinorRef) → field_at records m i ≡ field.Minor r → r.number < m =
    λ i r names.
    subst (λ (f : MinorField). FitsRecord m f) names (fits_is records m i ordered stands) in
    record {
      count = omega (arith, fields_length 5 fs marks, so.count);
      sound = λ r is. ⊎_elim
          (λ (x : (i : ℕ) × (i < 5) × (slice_index_or fs i field.Null ≡ field.Minor r)).
          named {r = me} x.0 x.1 (so.sound me marked) x.2)
          (λ (was : IsMarked marks r). so.sound r was)
          (fields_was 5 fs marks r is);
      roots = λ r is. fields_kept 5 fs marks r (so.roots r is);
      closed = λ r older i lt from is names. ⊎_elim
          (λ (same : m ≡ r.number).
          let names_here : field_at records m i
          ≡ field.Minor older = ap (λ (k : ℕ). field_at records k i) same ∙ names in
          let there : older.number < length marks =
          omega (arith, is_older i older names_here, stands, so.count) in
          fields_mark 5 fs marks i older lt names_here there)
          (λ (more : m < r.number). ⊎_elim
          (λ (x : (j : ℕ) × (j < 5) × (slice_index_or fs j field.Null ≡ field.Minor r)).
          absurd (omega (arith, is_older x.0 r x.2, more)))
          (λ (was : IsMarked marks r).
          fields_kept 5 fs marks older
          (so.closed r older i lt (omega (arith, more, next)) was names))
          (fields_was 5 fs marks r is))
          (split m r.number from);
    }

-- nothing has to have its turn that lies outside the marks
pub marks_within : (records : List (List MinorField)) (IsRoot : MinorRef → Type 0)
    (marks : List Bool) (n : ℕ) → ((r : MinorRef) → IsMarked marks r → n ≤ r.number)
    → MarksFrom records IsRoot marks n → MarksFrom records IsRoot marks 0
marks_within records IsRoot marks n from so =
    record {
      count = so.count;
      sound = so.sound;
      roots = so.roots;
      closed = λ r older i lt any is names. so.closed r older i lt (from r is) is names;
    }

-- at the end what is reached is marked
pub all_marked : (records : List (List MinorField)) (IsRoot : MinorRef → Type 0) (marks : List Bool)
    → MarksFrom records IsRoot marks 0
    → (r : MinorRef) → Reaches records IsRoot r → IsMarked marks r
all_marked records IsRoot marks so _ (root is) = so.roots _ is
all_marked records IsRoot marks so _ (named i lt before names) =
    so.closed _ _ i lt (omega arith) (all_marked records IsRoot marks so _ before) names

pub exactly : (records : List (List MinorField)) (IsRoot : MinorRef → Type 0) (marks : List Bool)
    → MarksFrom records IsRoot marks 0
    → (r : MinorRef) → IsMarked marks r ↔ Reaches records IsRoot r
exactly records IsRoot marks so r = (so.sound r, all_marked records IsRoot marks so r)
