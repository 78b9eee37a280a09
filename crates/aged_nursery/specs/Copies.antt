-- Records as they are copied: what names an older record names its copy.
-- Source: this project's.
use Rattle.std.specs.Prelude.{ℕ, zero, suc, ◌≡◌, ◌<◌, Bool, true, false, List, [], ◌∷◌}
use Rattle.std.specs.Prelude.{slice_index_or}
use Rattle.minor_heap.specs.declared.fields.MinorField.{MinorField}
use Rattle.minor_heap.specs.declared.fields.MinorField.TheVariants as field
use Rattle.minor_heap.specs.declared.fields.MinorRef.{MinorRef}
use Rattle.minor_heap.specs.Nursery.{Stands, field_at}
use Rattle.minor_heap.specs.Reaches.{IsMarked}

-- the copy of a record, by the numbers that copies have
abbrev pub moved_ref : List ℕ → MinorRef → MinorRef
moved_ref numbers r = record { number = slice_index_or numbers r.number 0 }

abbrev pub moved_field : List ℕ → MinorField → MinorField
moved_field numbers field.Null = field.Null
moved_field numbers (field.Num n) = field.Num n
moved_field numbers (field.Minor r) = field.Minor (moved_ref numbers r)
moved_field numbers (field.Shared place) = field.Shared place

abbrev pub moved_record : List ℕ → List MinorField → List MinorField
moved_record numbers fields =
    let moved : ℕ → MinorField = λ i. moved_field numbers (slice_index_or fields i field.Null) in
    moved 0 ∷ moved 1 ∷ moved 2 ∷ moved 3 ∷ moved 4 ∷ []

-- how many of the first n records are marked
abbrev pub rank : ℕ → List Bool → ℕ
rank zero marks = 0
rank (suc n) [] = 0
rank (suc n) (true ∷ marks) = suc (rank n marks)
rank (suc n) (false ∷ marks) = rank n marks

-- what is marked stands, and so does the mark of what it names
pub record AreClosed (records : List (List MinorField)) (marks : List Bool) : Type 0 where
  pub stands : (r : MinorRef) → IsMarked marks r → Stands records r
  pub named : (r older : MinorRef) (i : ℕ) → i < 5 → IsMarked marks r
      → field_at records r.number i ≡ field.Minor older → IsMarked marks older

-- each record below some number that is marked has a copy, and the copies are in the order of old
pub record AreCopied (old : List (List MinorField)) (marks : List Bool) (numbers : List ℕ)
    (new : List (List MinorField)) (upto : ℕ) : Type 0 where
  pub place : (r : MinorRef) → IsMarked marks r → r.number < upto
      → (moved_ref numbers r).number ≡ rank r.number marks
  pub there : (r : MinorRef) → IsMarked marks r → r.number < upto → Stands new (moved_ref numbers r)
  pub fields : (r : MinorRef) (i : ℕ) → IsMarked marks r → r.number < upto → i < 5
      → field_at new (moved_ref numbers r).number i ≡ moved_field numbers (field_at old r.number i)
