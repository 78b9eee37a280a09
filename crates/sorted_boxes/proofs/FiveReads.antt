-- Reads one after the other: how many places they take, and that the others stay what they were.
use Rattle.std.proofs.Common.{◌≡◌, ◌<◌, ◌≤◌, ◌+◌, ◌∷◌, ℕ, zero, suc, Bool, false, [], length}
use Rattle.std.proofs.Common.{if◌then◌else◌, refl, sym, ◌∙◌, ap, subst, arith}
use Rattle.std.specs.List.{SameBelow}
use Rattle.cell_words.specs.declared.fields.Field.{Field}
use Rattle.cell_words.specs.declared.fields.Field.TheVariants as field
use Rattle.held_places.specs.Calls.{cells_found}
use Rattle.held_places.proofs.Going.{many_held}
use Rattle.mutator_events.specs.declared.values.Value.{Value}
use Rattle.mutator_events.specs.Values.{value_found}
use Rattle.mutator_seat.specs.Bound.{Bound}
use Rattle.record_copying.specs.Copies.{StillRecords}
use Rattle.sorted_rule.specs.Sorts.{Records, Sort, sort_of}
use Rattle.sorted_rule.specs.declared.sorting.Sorting.{Sorting}
use Rattle.sorted_boxes.specs.Calls.{AreOfTheirSort, Gave}
use Rattle.sorted_boxes.specs.Holding.{HoldsAs}
use Rattle.sorted_boxes.specs.Sorts.{IsOfTheSort, SortList, holds_record, sort_as, sort_found}
use Rattle.sorted_boxes.proofs.Holding.{same_then}

-- after so many reads
pub record ReadOn (n : ℕ) (old : SortList) (a : Bound Sorting) (new : SortList)
    (b : Bound Sorting) : Type 0 where
  pub more : length a.seat.me.own.held ≤ length b.seat.me.own.held
  pub few : length b.seat.me.own.held ≤ length a.seat.me.own.held + n
  pub room : b.seat.me.room ≡ a.seat.me.room
  pub boxes : new.boxes ≡ old.boxes
  pub same : SameBelow old.records new.records (length a.seat.me.own.held)
  pub records : StillRecords a.seat.me.known b.seat.me.known

one_found : (w : Field) → length (cells_found w) ≤ 1
one_found field.Null = omega arith
one_found (field.Num n) = omega arith
one_found (field.Cell c) = omega arith

pub read_none : (sorts : SortList) (a : Bound Sorting) → ReadOn 0 sorts a sorts a
read_none sorts a = record {
  more = omega arith;
  few = omega arith;
  room = refl;
  boxes = refl;
  same = λ k d lt. refl;
  records = λ place t is. is;
}

pub read_then : {n m : ℕ} {one two three : SortList} {a b c : Bound Sorting}
    → ReadOn n one a two b → ReadOn m two b three c → ReadOn (n + m) one a three c
read_then {one = one} {two = two} {three = three} {a = a} {b = b} first second = record {
  more = let less = first.more in let more = second.more in omega (arith, less, more);
  few = let less = first.few in let few = second.few in omega (arith, less, few);
  room = second.room ∙ first.room;
  boxes = second.boxes ∙ first.boxes;
  same = same_then one two three (length a.seat.me.own.held) (length b.seat.me.own.held) first.more
      first.same second.same;
  records = λ place t is. second.records place t (first.records place t is);
}

longer : (a b : Bound Sorting) (place f : ℕ) (value : Value) (gave : Gave a place f value b)
    → length b.seat.me.own.held ≡ length a.seat.me.own.held + length (cells_found gave.found)
longer a b place f value gave = many_held a b (cells_found gave.found) gave.was_read.holds.held

pub read_once : {place f : ℕ} {value : Value} {old new : SortList} {a b : Bound Sorting}
    → Gave a place f value b
    → SameBelow old.records new.records (length a.seat.me.own.held)
    → StillRecords a.seat.me.known b.seat.me.known → HoldsAs old a.seat.me → HoldsAs new b.seat.me
    → ReadOn 1 old a new b
read_once {place = place} {f = f} {value = value} {a = a} {b = b} gave same records was is =
    let more = longer a b place f value gave in
    let few = one_found gave.found in
    record {
      more = omega (arith, more);
      few = omega (arith, more, few);
      room = gave.was_read.goes.room;
      boxes = is.serves.boxes ∙ ap (λ (p : Sorting). p.boxes) gave.pass ∙ sym was.serves.boxes;
      same = same;
      records = records;
    }

-- What a read found is of the same sort by a later list, and so is its field by an earlier one.
module _ {place f : ℕ} {value : Value} {old new : SortList} {a b : Bound Sorting}
    (gave : Gave a place f value b) (sort : IsOfTheSort new (sort_found old place f) value)
    {n m : ℕ} {first last : SortList} {from to : Bound Sorting}
    (before : ReadOn n first from old a) (after : ReadOn m new b last to)
    (there : place < length from.seat.me.own.held) where
  by_found : (w : Field) (s : Sort)
      → length b.seat.me.own.held ≡ length a.seat.me.own.held + length (cells_found w)
      → IsOfTheSort new s (value_found (length a.seat.me.own.held) w)
      → IsOfTheSort last s (value_found (length a.seat.me.own.held) w)
  by_found field.Null s long is = tt
  by_found (field.Num k) s long is = tt
  by_found (field.Cell c) s long is =
      ap sort_as (after.same (length a.seat.me.own.held) false (omega (arith, long))) ∙ is

  found_is : sort_found old place f ≡ sort_found first place f
  found_is =
      ap (λ (record_there : Bool). if record_there then Records else sort_of old.boxes place f)
      (before.same place false there)
      ∙ ap (λ (boxes : ℕ). if holds_record first place then Records else sort_of boxes place f)
      before.boxes

  pub sort_later : IsOfTheSort last (sort_found first place f) value
  sort_later =
      subst (λ (s : Sort). IsOfTheSort last s value) found_is
      (subst (λ (v : Value). IsOfTheSort last (sort_found old place f) v) (sym gave.value_is)
      (by_found gave.found (sort_found old place f) (longer a b place f value gave)
      (subst (λ (v : Value). IsOfTheSort new (sort_found old place f) v) gave.value_is sort)))

-- what the next read needs
module _ {n : ℕ} {old new : SortList} {a b : Bound Sorting} (on : ReadOn n old a new b) where
  pub there_still : (place : ℕ) → place < length a.seat.me.own.held
      → place < length b.seat.me.own.held
  there_still place lt = let more = on.more in omega (arith, more, lt)

  pub room_still : n < 5 → length a.seat.me.own.held + 5 ≤ a.seat.me.room
      → length b.seat.me.own.held < b.seat.me.room
  room_still less room =
      let few = on.few in let same = on.room in omega (arith, less, room, few, same)

pub five_sorted : (place : ℕ) (v0 v1 v2 v3 v4 : Value) (sorts later : SortList)
    → IsOfTheSort later (sort_found sorts place 0) v0
    → IsOfTheSort later (sort_found sorts place 1) v1
    → IsOfTheSort later (sort_found sorts place 2) v2
    → IsOfTheSort later (sort_found sorts place 3) v3
    → IsOfTheSort later (sort_found sorts place 4) v4
    → AreOfTheirSort sorts place (v0 ∷ v1 ∷ v2 ∷ v3 ∷ v4 ∷ []) later
five_sorted place v0 v1 v2 v3 v4 sorts later a b c d e zero lt = a
five_sorted place v0 v1 v2 v3 v4 sorts later a b c d e (suc zero) lt = b
five_sorted place v0 v1 v2 v3 v4 sorts later a b c d e (suc (suc zero)) lt = c
five_sorted place v0 v1 v2 v3 v4 sorts later a b c d e (suc (suc (suc zero))) lt = d
five_sorted place v0 v1 v2 v3 v4 sorts later a b c d e (suc (suc (suc (suc zero)))) lt = e
five_sorted place v0 v1 v2 v3 v4 sorts later a b c d e (suc (suc (suc (suc (suc f))))) lt =
    absurd (omega (arith, lt))
