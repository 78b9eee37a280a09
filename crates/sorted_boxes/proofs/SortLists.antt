-- The list of what is held at each place, as a program tests and changes it.
use Rattle.std.proofs.Common.{◌≡◌, ◌<◌, ◌≤◌, ℕ, Bool, true, false, length, slice_set}
use Rattle.std.proofs.Common.{refl, ◌∙◌, ap, arith}
use Rattle.std.specs.List.{SameBelow}
use Rattle.std.proofs.lemmas.List.{get_or-set_other, get_or-set_same, length-set}
use Rattle.heap_rule.specs.declared.view.View.{View}
use Rattle.mutator_events.specs.declared.values.Value.TheVariants as values
use Rattle.sorted_rule.specs.Sorts.{Boxes, Records, Sort}
use Rattle.sorted_rule.specs.declared.sorting.Sorting.{Sorting}
use Rattle.sorted_boxes.specs.Sorts.{Serves, SortList, holds_record, is_fit, same_sort, sort_as}
use Rattle.sorted_boxes.specs.Sorts.{sort_in}

-- two sorts that are tested to be one are one
pub sort_is : (one other : Sort) → same_sort one other ≡ true → one ≡ other
sort_is Boxes Boxes same = refl
sort_is Boxes Records same = absurd cc
sort_is Records Boxes same = absurd cc
sort_is Records Records same = refl

-- a value that is a place fits where what is held there is of the sort
pub held_fits : (sorts : SortList) (sort : Sort) (place : ℕ)
    → is_fit sorts sort (values.Held place) ≡ true → sort_in sorts place ≡ sort
held_fits sorts sort place fits = sort_is (sort_in sorts place) sort fits

-- where no record is held there is a box
pub box_in : (sorts : SortList) (place : ℕ) → holds_record sorts place ≡ false
    → sort_in sorts place ≡ Boxes
box_in sorts place is = ap sort_as is

-- A list whose entry for one place is set.
module _ (sorts : SortList) (place : ℕ) (is_record : Bool) where
  abbrev pub with_set : SortList
  with_set = record sorts { records = slice_set sorts.records place is_record }

  pub set_same : SameBelow sorts.records with_set.records place
  set_same k d lt =
      get_or-set_other sorts.records place k is_record d (λ e. omega (arith, e, lt))

  pub set_there : place < length sorts.records → sort_in with_set place ≡ sort_as is_record
  set_there lt = ap sort_as (get_or-set_same sorts.records place is_record false lt)

  pub set_is : place < length sorts.records → holds_record with_set place ≡ is_record
  set_is lt = get_or-set_same sorts.records place is_record false lt

  pub set_serves : (v : View Sorting) → 1 ≤ place → Serves sorts v → Serves with_set v
  set_serves v some serves = record {
    room = let more = serves.room in
        let many = length-set sorts.records place is_record in omega (arith, more, many);
    boxes = serves.boxes;
    anchor = set_same 0 false some ∙ serves.anchor;
  }

pub set_box : (sorts : SortList) (place : ℕ) → place < length sorts.records
    → holds_record (with_set sorts place false) place ≡ false
set_box sorts place lt = set_is sorts place false lt
