-- What is left when some roots have aged: what they reach, in as many records, each with its term
-- and its shared places. Both are said for every list of shared terms and for one place at a time:
-- a private heap knows no held list, and a clause over all sets of places would be no `Type 0`.
-- Source: this project's.
use Rattle.std.specs.Prelude.{ℕ, ◌≡◌, ◌<◌, ◌≤◌, List, All, length, map, slice_index_or}
use Rattle.cell_words.specs.Term.{Term}
use Rattle.minor_heap.specs.declared.fields.MinorField.{MinorField}
use Rattle.minor_heap.specs.declared.fields.MinorField.TheVariants as field
use Rattle.minor_heap.specs.declared.fields.MinorRef.{MinorRef}
use Rattle.minor_heap.specs.Nursery.{Stands, field_at}
use Rattle.minor_heap.specs.Reaches.{AreReached}
use Rattle.minor_heap.specs.Terms.{term_of, terms_of}

-- a chain of fields leads from the record to the shared place
pub data Leads (records : List (List MinorField)) (place : ℕ) : MinorRef → Type 0 where
  here : {r : MinorRef} (i : ℕ) → i < 5 → field_at records r.number i ≡ field.Shared place
      → Leads records place r
  by : {r older : MinorRef} (i : ℕ) → i < 5 → field_at records r.number i ≡ field.Minor older
      → Leads records place older → Leads records place r

-- a field of some record is the shared place
pub record NamesPlace (records : List (List MinorField)) (place : ℕ) : Type 0 where
  pub number : ℕ
  pub index : ℕ
  pub is : field_at records number index ≡ field.Shared place

-- each shared place that a field of a record is was one before
abbrev pub NameNoMore : List (List MinorField) → List (List MinorField) → Type 0
NameNoMore old new = (place : ℕ) → NamesPlace new place → NamesPlace old place

-- a root, or past the end of the roots the oldest record
abbrev pub root_at : List MinorRef → ℕ → MinorRef
root_at roots k = slice_index_or roots k record { number = 0 }

-- each root leads to no shared place to which it did not lead
abbrev pub LeadNoFurther : List (List MinorField) → List MinorRef → List (List MinorField)
    → List MinorRef → Type 0
LeadNoFurther old from new to =
    (k place : ℕ) → k < length from → Leads new place (root_at to k)
    → Leads old place (root_at from k)

-- of records some roots are left alone with what they reach
pub record AreSurvivors (old : List (List MinorField)) (from : List MinorRef)
    (new : List (List MinorField)) (to : List MinorRef) : Type 0 where
  pub stand : All (Stands new) to
  -- whatever the shared places stand for
  pub terms : (shared : List Term) → map (term_of shared new) to ≡ map (term_of shared old) from
  pub places : LeadNoFurther old from new to
  pub found : List MinorRef
  pub reached : AreReached old from found
  -- each once, and the oldest first
  pub kept : (shared : List Term) → terms_of shared new ≡ map (term_of shared old) found
  pub many : length new ≡ length found
  pub fewer : length new ≤ length old
