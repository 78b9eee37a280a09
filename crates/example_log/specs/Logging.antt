-- A log in boxes: the anchor names the newest entry, and each entry the one before it. Field 0 of
-- an entry is how many there are up to it, field 1 the entry before it, field 2 the mutator that
-- appended it, and field 3 how many this one had appended before. The first box is no entry: its
-- number is 0.
-- Source: this project's.
use Rattle.std.specs.Prelude.{ℕ, ◌≡◌, ◌<◌, ◌+◌, ◌==◌, Bool, true, false, List, [], ◌∷◌, length}
use Rattle.std.specs.Prelude.{Option, Some, None, if◌then◌else◌, slice_index_or, sum_by}
use mathlib.Core.Option.{some}
use lib.ListN.{get_elem?}
use Rattle.cell_words.specs.Term.{Term, null, num}
use Rattle.cell_words.specs.declared.fields.Field.{Field}
use Rattle.cell_words.specs.declared.fields.Field.TheVariants as field
use Rattle.core_machine.specs.declared.events.Found.{Found}
use Rattle.heap_rule.specs.Asks.{known_of, target}
use Rattle.heap_rule.specs.Boxes.{Map, Payload}
use Rattle.heap_rule.specs.Lore.{Named, Plain, was_made}
use Rattle.heap_rule.specs.Numbered.{HasNumber}
use Rattle.heap_rule.specs.declared.known.Known.TheVariants as knows
use Rattle.heap_rule.specs.declared.known.Learned.{Learned}
use Rattle.heap_rule.specs.declared.view.View.{View}
use Rattle.example_log.specs.declared.log.Appended.{Appended}

-- the pass of a mutator at the start
abbrev pub nothing_appended : ℕ → ℕ → Appended
nothing_appended number setting = record { count = 0 }

-- an entry's number is never written
abbrev pub is_fixed : ℕ → Bool
is_fixed f = f == 0

-- how many of these entries are one writer's
abbrev pub entries_of : ℕ → List ℕ → ℕ
entries_of writer [] = 0
entries_of writer (one ∷ others) =
    if one == writer then entries_of writer others + 1 else entries_of writer others

-- it is the box that the log opened with
pub record IsFirst (map : Map) (cell : ℕ) : Type 0 where
  pub has : HasNumber map cell 0
  pub before_is : has.box 1 ≡ Plain null

-- it is this writer's entry, after those of these writers
pub record IsEntry (map : Map) (cell writer : ℕ) (writers : List ℕ) : Type 0 where
  pub has : HasNumber map cell (length (writer ∷ writers))
  pub before : ℕ
  pub before_is : has.box 1 ≡ Named before
  pub writer_is : has.box 2 ≡ Plain (num writer)
  pub own_is : has.box 3 ≡ Plain (num (entries_of writer writers))

-- from this cell on the entries of these writers follow, the newest first
abbrev pub Chain : Map → ℕ → List ℕ → Type 0
Chain map cell [] = IsFirst map cell
Chain map cell (writer ∷ writers) =
    (entry : IsEntry map cell writer writers) × Chain map entry.before writers

abbrev pub sum_of : List Appended → ℕ
sum_of passes = sum_by (λ (pass : Appended). pass.count) passes

-- The anchor names the newest entry. There are as many entries as all mutators appended, and of
-- each mutator as many as it appended.
pub record KeepsLog (map : Map) (passes : List Appended) : Type 0 where
  pub writers : List ℕ
  pub anchor : Payload
  pub anchor_is : map 0 ≡ Some anchor
  pub newest : ℕ
  pub names : anchor 0 ≡ Named newest
  pub chain : Chain map newest writers
  pub many : length writers ≡ sum_of passes
  pub own : (number : ℕ) (pass : Appended) → get_elem? passes number ≡ some pass
      → pass.count ≡ entries_of number writers

-- the pass with one more, if it was made
abbrev pub one_more : Bool → Appended → Appended
one_more true pass = record { count = pass.count + 1 }
one_more false pass = pass

-- a write over the old value that was made appends one
abbrev pub appending : Field → Learned → Found → Appended → Appended
appending old learned found pass = one_more (was_made old found) pass

-- What a mutator knows of entries, and what it needs for an append.

-- the cell at this place is known to be a box with this number
pub record KnowsEntry (v : View Appended) (place number : ℕ) : Type 0 where
  pub told : List (Option Term)
  pub there : place < length v.own.held
  pub known : known_of v place ≡ knows.Boxed told
  pub number_is : slice_index_or told 0 None ≡ Some (num number)

-- the fields of the box for the entry after the one at this cell
abbrev pub entry_fields : ℕ → ℕ → ℕ → ℕ → List Field
entry_fields before number writer own =
    field.Num (number + 1) ∷ field.Cell before ∷ field.Num writer ∷ field.Num own ∷ field.Null ∷ []

-- A fresh box with these fields. The write itself checks that the entry before it is still the
-- newest.
pub record MayAppend (v : View Appended) (place box number : ℕ) : Type 0 where
  pub held : KnowsEntry v place number
  pub box_there : box < length v.own.held
  pub box_is : known_of v box
      ≡ knows.Fresh (entry_fields (target v place) number v.number v.pass.count)
