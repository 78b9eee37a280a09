-- What a mutator's program keeps by place: whether a box or a record is held there.
--
-- No word that the program has tells which. It follows from where the cell came from: a field of a
-- box names what its number says, and a field of a record names records.
-- Source: this project's.
use Rattle.std.specs.Prelude.{ℕ, ◌≡◌, ◌<◌, ◌≤◌, ◌^◌, Bool, true, false, List, length}
use Rattle.std.specs.Prelude.{if◌then◌else◌, slice_index_or}
use Rattle.cell_making.specs.Makes.{value_at}
use Rattle.heap_rule.specs.declared.view.View.{View}
use Rattle.mutator_events.specs.declared.values.Value.{Value}
use Rattle.mutator_events.specs.declared.values.Value.TheVariants as values
use Rattle.sorted_rule.specs.Sorts.{Boxes, Records, Sort, sort_of}
use Rattle.sorted_rule.specs.declared.sorting.Sorting.{Sorting}

pub record SortList : Type 0 where
  -- how many fields of each box name boxes
  pub boxes : ℕ
  -- by place, whether it holds a record
  pub records : List Bool

-- a place past the end holds none
abbrev pub holds_record : SortList → ℕ → Bool
holds_record sorts place = slice_index_or sorts.records place false

abbrev pub sort_as : Bool → Sort
sort_as is_record = if is_record then Records else Boxes

-- the sort of what is held at a place
abbrev pub sort_in : SortList → ℕ → Sort
sort_in sorts place = sort_as (holds_record sorts place)

-- the sort of what a field names of the box or record at a place
abbrev pub sort_found : SortList → (place f : ℕ) → Sort
sort_found sorts place f =
    if holds_record sorts place then Records else sort_of sorts.boxes place f

abbrev pub same_sort : Sort → Sort → Bool
same_sort Boxes Boxes = true
same_sort Boxes Records = false
same_sort Records Boxes = false
same_sort Records Records = true

-- the value is null, a number, or a place that holds what a field of this sort may name
abbrev pub is_fit : SortList → Sort → Value → Bool
is_fit sorts sort values.Null = true
is_fit sorts sort (values.Num n) = true
is_fit sorts sort (values.Held place) = same_sort (sort_in sorts place) sort

-- five values for the fields of a new box
abbrev pub AreFit : SortList → List Value → Type 0
AreFit sorts given =
    (i : ℕ) → i < 5 → is_fit sorts (sort_of sorts.boxes 1 i) (value_at given i) ≡ true

-- The value is null, a number that fits a word, or a place below this end, but not the anchor's.
abbrev pub IsValue : ℕ → Value → Type 0
IsValue end values.Null = Unit {0}
IsValue end (values.Num n) = n < 2 ^ 62
IsValue end (values.Held place) = (1 ≤ place) × (place < end)

-- five of them
abbrev pub AreValues : ℕ → List Value → Type 0
AreValues end given = (i : ℕ) → i < 5 → IsValue end (value_at given i)

-- what a value that was read stands for is of this sort, if it is a place
abbrev pub IsOfTheSort : SortList → Sort → Value → Type 0
IsOfTheSort sorts sort values.Null = Unit {0}
IsOfTheSort sorts sort (values.Num n) = Unit {0}
IsOfTheSort sorts sort (values.Held place) = sort_in sorts place ≡ sort

-- The list serves this mutator: there is an entry for each place that it may hold, the number is
-- that of its heap, and the anchor is a box.
pub record Serves (sorts : SortList) (v : View Sorting) : Type 0 where
  pub room : v.room ≤ length sorts.records
  pub boxes : sorts.boxes ≡ v.pass.boxes
  pub anchor : holds_record sorts 0 ≡ false
