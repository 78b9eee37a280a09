-- What a mutator holds after each kind of call.
use Rattle.std.proofs.Common.{◌≡◌, ◌<◌, ◌≤◌, ◌+◌, ◌++◌, ◌∷◌, ℕ, zero, suc, Bool, true, false, List}
use Rattle.std.proofs.Common.{[], length, get_or, inl, inr, refl, sym, ◌∙◌, ap, subst, arith}
use Rattle.std.proofs.Common.{if◌then◌else◌}
use Rattle.std.specs.List.{SameBelow}
use Rattle.std.proofs.lemmas.Bool.{cases_lt}
use Rattle.std.proofs.lemmas.List.{append-nil}
use Rattle.cell_words.specs.declared.fields.Field.{Field}
use Rattle.cell_words.specs.declared.fields.Field.TheVariants as field
use Rattle.core_machine.specs.declared.events.Event.{Event}
use Rattle.core_machine.specs.declared.events.Event.TheVariants as event
use Rattle.core_machine.specs.declared.events.Found.TheVariants as finds
use Rattle.core_machine.specs.declared.events.Taken.{Taken}
use Rattle.heap_rule.specs.Asks.{known_of, target}
use Rattle.heap_rule.specs.Lore.{known_at, learned}
use Rattle.heap_rule.specs.NoRule.{no_field_is_fixed}
use Rattle.heap_rule.specs.Steps.{same_pass}
use Rattle.heap_rule.specs.declared.known.Known.{Known}
use Rattle.heap_rule.specs.declared.known.Learned.{Learned}
use Rattle.heap_rule.specs.declared.view.View.{View}
use Rattle.heap_rule.proofs.AfterReads.{found_known}
use Rattle.heap_rule.proofs.Reading.{cell_there}
use Rattle.held_places.specs.Calls.{WasRead, cells_found}
use Rattle.held_places.proofs.Going.{calm_goes, kept_known, many_cells}
use Rattle.held_places.proofs.Going.{many_held, target_still}
use Rattle.held_places.proofs.Steps.{was_read}
use Rattle.mutator_events.specs.declared.values.Value.{Value}
use Rattle.mutator_events.specs.Events.{AtEvent}
use Rattle.mutator_events.specs.Values.{value_found}
use Rattle.mutator_seat.specs.Bound.{Bound, held_cells}
use Rattle.mutator_seat.specs.Stretches.{Calm}
use Rattle.record_copying.specs.Copies.{StillRecords}
use Rattle.sorted_rule.specs.Open.{KnownOfSort}
use Rattle.sorted_rule.specs.Sorted.{HoldsSorted}
use Rattle.sorted_rule.specs.Sorts.{Records, Sort, sort_of}
use Rattle.sorted_rule.specs.declared.sorting.Sorting.{Sorting}
use Rattle.sorted_rule.proofs.Finding.{learned_finds, record_finds}
use Rattle.sorted_boxes.specs.Calls.{Gave, KeepsPlaces}
use Rattle.sorted_boxes.specs.Holding.{HoldsAs, IsAs}
use Rattle.sorted_boxes.specs.Sorts.{IsOfTheSort, Serves, SortList, holds_record, sort_as}
use Rattle.sorted_boxes.specs.Sorts.{sort_found, sort_in}
use Rattle.sorted_boxes.proofs.Carrying.{StillSettled, as_lasts, still_records}
use Rattle.sorted_boxes.proofs.Giving.{known_as}
use Rattle.sorted_boxes.proofs.SortLists.{box_in}

-- The list.

pub serves_on : (sorts : SortList) (v w : View Sorting) → w.room ≡ v.room → w.pass ≡ v.pass
    → Serves sorts v → Serves sorts w
serves_on sorts v w room pass serves = record {
  room = let more = serves.room in omega (arith, more, room);
  boxes = serves.boxes ∙ sym (ap (λ (p : Sorting). p.boxes) pass);
  anchor = serves.anchor;
}

-- where two lists agree up to an end they have the same sorts there
pub sort_below : (old new : SortList) (n place : ℕ) → SameBelow old.records new.records n
    → place < n → sort_in new place ≡ sort_in old place
sort_below old new n place same lt = ap sort_as (same place false lt)

pub same_list : (sorts : SortList) (n : ℕ) → SameBelow sorts.records sorts.records n
same_list sorts n k d lt = refl

pub same_then : (one two three : SortList) (n m : ℕ) → n ≤ m
    → SameBelow one.records two.records n → SameBelow two.records three.records m
    → SameBelow one.records three.records n
same_then one two three n m fewer first second k d lt =
    second k d (omega (arith, lt, fewer)) ∙ first k d lt

-- The places from before are held, and maybe others after them.
pub holds_on : (old new : SortList) (a b : Bound Sorting) (cells : List ℕ)
    → held_cells b ≡ held_cells a ++ cells
    → b.seat.me.presence.inside ≡ a.seat.me.presence.inside → StillSettled a b
    → Serves new b.seat.me
    → SameBelow old.records new.records (length a.seat.me.own.held)
    → ((place : ℕ) → length a.seat.me.own.held ≤ place → place < length b.seat.me.own.held
    → IsAs b.seat.me place (sort_in new place))
    → HoldsAs old a.seat.me → HoldsAs new b.seat.me
holds_on old new a b cells held inside still serves same newest at = record {
  inside = inside ∙ at.inside;
  serves = serves;
  some = let longer = many_held a b cells held in let some = at.some in omega (arith, longer, some);
  each = λ place lt. elim (cases_lt place (length a.seat.me.own.held)) [
    | inl before ↦
        subst (λ (sort : Sort). IsAs b.seat.me place sort)
        (sym (sort_below old new (length a.seat.me.own.held) place same before))
        (as_lasts a.seat.me b.seat.me place (sort_in old place)
        (target_still a b cells held place before) (still place before) (at.each place before))
    | inr behind ↦ newest place behind lt
  ];
}

-- no more places than before
none_newer : (sorts : SortList) (a b : Bound Sorting) → held_cells b ≡ held_cells a ++ []
    → (place : ℕ) → length a.seat.me.own.held ≤ place → place < length b.seat.me.own.held
    → IsAs b.seat.me place (sort_in sorts place)
none_newer sorts a b held place behind lt =
    absurd (let longer = many_held a b [] held in omega (arith, longer, behind, lt))

-- All places are kept.
pub holds_same : (a b : Bound Sorting) → KeepsPlaces a b → StillSettled a b → (sorts : SortList)
    → HoldsAs sorts a.seat.me → HoldsAs sorts b.seat.me
holds_same a b keeps still sorts at =
    let is : held_cells b ≡ held_cells a ++ [] =
    keeps.held ∙ sym (append-nil (held_cells a)) in
    holds_on sorts sorts a b [] is keeps.goes.inside still
    (serves_on sorts a.seat.me b.seat.me keeps.goes.room keeps.pass at.serves)
    (same_list sorts (length a.seat.me.own.held)) (none_newer sorts a b is) at

-- A stretch that keeps all: a look, marks, an answer.
module _ (F : List Taken → Type 0) (a b : Bound Sorting) (calm : Calm F a b) where
  pub calm_keeps : KeepsPlaces a b
  calm_keeps = record {
    goes = calm_goes F a b calm;
    held = calm.kept.held;
    pass = calm.kept.pass;
  }

  pub calm_holds : (sorts : SortList) → HoldsAs sorts a.seat.me → HoldsAs sorts b.seat.me
  calm_holds =
      holds_same a b calm_keeps
      (λ place lt is_settled. kept_known no_field_is_fixed (length a.seat.me.own.held) a b
      calm.kept place lt)

  pub calm_records : StillRecords a.seat.me.known b.seat.me.known
  calm_records place t is =
      ap (λ (ks : List Known). known_at ks place) calm.kept.known ∙ is

-- A read.

module _ (a b : Bound Sorting) (heap : b.heap ≡ a.heap) (table : b.seat.table ≡ a.seat.table)
    (place f : ℕ) (there : place < length a.seat.me.own.held) (found : Field)
    (step : AtEvent HoldsSorted no_field_is_fixed a.seat.me
    (event.Read a.seat.me.number place f) same_pass (finds.Field found) b.seat.me) where
  pub was : WasRead no_field_is_fixed a b place f found
  was = was_read no_field_is_fixed HoldsSorted same_pass a b place f found heap table there step

  pub gave : (value : Value) → value ≡ value_found (length a.seat.me.own.held) found
      → Gave a place f value b
  gave value is = record {
    found = found;
    value_is = is;
    at = step;
    was_read = was;
    pass = ap (λ (u : View Sorting). u.pass) step.new;
  }

  read_still : StillSettled a b
  read_still other lt is_settled = was.holds.known other lt

  pub read_records : StillRecords a.seat.me.known b.seat.me.known
  read_records = still_records a b read_still was.coherent.many

  -- What was found is of the sort that the field names: a box's field by its number, and a
  -- record's a record.
  module _ (sorts : SortList) (at : HoldsAs sorts a.seat.me) (payload : f ≤ 4) where
    abbrev e : Event
    e = event.Read a.seat.me.number place f

    abbrev tells : Learned
    tells = learned step.core step.lore e

    by_sort : (c : ℕ) → found ≡ field.Cell c → (is_record : Bool)
        → IsAs a.seat.me place (sort_as is_record)
        → KnownOfSort (if is_record then Records else sort_of sorts.boxes place f) tells.found
    by_sort c is true as_record =
        record_finds a.seat.me place f c there as_record payload step.core step.lore step.mine
        (step.found_is ∙ ap finds.Field is)
    by_sort c is false as_box =
        subst (λ (boxes : ℕ). KnownOfSort (sort_of boxes place f) tells.found)
        (sym at.serves.boxes)
        (learned_finds a.seat.me place f c there as_box payload step.core step.lore step.passes
        step.mine step.kept step.pass (step.found_is ∙ ap finds.Field is))

    newest_known : (c : ℕ) → found ≡ field.Cell c
        → KnownOfSort (sort_found sorts place f)
        (known_of b.seat.me (length a.seat.me.own.held))
    newest_known c is =
        subst (λ (k : Known). KnownOfSort (sort_found sorts place f) k)
        (sym (found_known no_field_is_fixed a.seat.me b.seat.me step.core step.lore step.mine place
        f (finds.Field found) tells a.seat.me.pass step.new c (ap finds.Field is)))
        (by_sort c is (holds_record sorts place) (at.each place there))

    -- The list has it at the next place.
    module _ (new : SortList) (serves : Serves new a.seat.me)
        (same : SameBelow sorts.records new.records (length a.seat.me.own.held))
        (next : sort_in new (length a.seat.me.own.held) ≡ sort_found sorts place f) where
      newest_as : (w : Field) → found ≡ w
          → length b.seat.me.own.held ≡ length a.seat.me.own.held + length (cells_found w)
          → (p : ℕ) → length a.seat.me.own.held ≤ p → p < length b.seat.me.own.held
          → IsAs b.seat.me p (sort_in new p)
      newest_as field.Null is longer p behind lt = absurd (omega (arith, longer, behind, lt))
      newest_as (field.Num n) is longer p behind lt = absurd (omega (arith, longer, behind, lt))
      newest_as (field.Cell c) is longer p behind lt =
          let last : length a.seat.me.own.held ≡ p = omega (arith, longer, behind, lt) in
          subst (λ (n : ℕ). IsAs b.seat.me n (sort_in new n)) last
          (subst (λ (sort : Sort). IsAs b.seat.me (length a.seat.me.own.held) sort) (sym next)
          (known_as b.seat.me (length a.seat.me.own.held) (sort_found sorts place f) at.some
          (newest_known c is)))

      pub read_holds : HoldsAs new b.seat.me
      read_holds =
          holds_on sorts new a b (cells_found found) was.holds.held was.goes.inside read_still
          (serves_on new a.seat.me b.seat.me was.goes.room
          (ap (λ (u : View Sorting). u.pass) step.new) serves) same
          (newest_as found refl (many_held a b (cells_found found) was.holds.held)) at

      found_sort : (w : Field)
          → IsOfTheSort new (sort_found sorts place f)
          (value_found (length a.seat.me.own.held) w)
      found_sort field.Null = tt
      found_sort (field.Num n) = tt
      found_sort (field.Cell c) = next

      pub read_sort : (value : Value) → value ≡ value_found (length a.seat.me.own.held) found
          → IsOfTheSort new (sort_found sorts place f) value
      read_sort value is =
          subst (λ (v : Value). IsOfTheSort new (sort_found sorts place f) v) (sym is)
          (found_sort found)

-- Coming in.
pub begun_holds : (m : Bound Sorting) → m.seat.me.presence.inside ≡ true → held_cells m ≡ 0 ∷ []
    → (sorts : SortList) → Serves sorts m.seat.me → HoldsAs sorts m.seat.me
begun_holds m inside held sorts serves = record {
  inside = inside;
  serves = serves;
  some = omega (arith, one);
  each = first_as;
}
  where
    one : length m.seat.me.own.held ≡ 1
    one = sym (many_cells m) ∙ ap (λ (cs : List ℕ). length cs) held

    anchor_is : target m.seat.me 0 ≡ 0
    anchor_is = sym (cell_there m.seat.me.own.held 0)
        ∙ ap (λ (cs : List ℕ). get_or cs 0 0) held

    first_as : (place : ℕ) → place < length m.seat.me.own.held
        → IsAs m.seat.me place (sort_in sorts place)
    first_as zero lt =
        subst (λ (sort : Sort). IsAs m.seat.me 0 sort) (sym (box_in sorts 0 serves.anchor))
        anchor_is
    first_as (suc place) lt = absurd (omega (arith, lt, one))
