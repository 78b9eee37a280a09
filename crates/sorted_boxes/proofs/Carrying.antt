-- What is known of places and of values stays so while a mutator loads a field, looks and marks.
use Rattle.std.proofs.Common.{◌≡◌, ◌<◌, ◌≤◌, ◌++◌, ◌∷◌, ℕ, zero, suc, true, List, [], length}
use Rattle.std.proofs.Common.{slice_index_or, refl, sym, ◌∙◌, ap, subst, arith}
use Rattle.std.proofs.lemmas.List.{append-nil}
use Rattle.cell_words.specs.declared.fields.Field.{Field}
use Rattle.cell_words.specs.declared.fields.Field.TheVariants as field
use Rattle.cell_words.specs.Term.{Term}
use Rattle.core_machine.specs.declared.events.Found.TheVariants as finds
use Rattle.heap_rule.specs.Asks.{known_of, target}
use Rattle.heap_rule.specs.Lore.{known_at}
use Rattle.heap_rule.specs.NoRule.{no_field_is_fixed}
use Rattle.heap_rule.specs.Steps.{same_pass}
use Rattle.heap_rule.specs.declared.known.Known.{Known}
use Rattle.heap_rule.specs.declared.known.Known.TheVariants as knows
use Rattle.heap_rule.specs.declared.view.View.{View}
use Rattle.held_places.specs.Calls.{StaysKnown, StillKnown, cells_found, settled}
use Rattle.held_places.proofs.Going.{kept_known, many_held, still_then, target_still}
use Rattle.held_places.proofs.Overwriting.{Loaded, fetched, read_here}
use Rattle.mutator_seat.specs.Bound.{Bound, held_cells}
use Rattle.mutator_seat.specs.Stores.{Stepped, fetch_of, read_of}
use Rattle.mutator_seat.specs.Stretches.{Kept}
use Rattle.record_copying.specs.Copies.{StillRecords}
use Rattle.sorted_rule.specs.Open.{IsOpen, KnownOfSort, MayShow, MayStand, sort_at}
use Rattle.sorted_rule.specs.Sorted.{HoldsSorted}
use Rattle.sorted_rule.specs.Sorts.{Boxes, Records, Sort, sort_of}
use Rattle.sorted_rule.specs.declared.sorting.Sorting.{Sorting}
use Rattle.sorted_boxes.specs.Holding.{IsAs}

-- The places of the first are held by the second too, and what was known of them is known still.
pub record Carries (a b : Bound Sorting) : Type 0 where
  pub pass : b.seat.me.pass ≡ a.seat.me.pass
  pub many : length a.seat.me.own.held ≤ length b.seat.me.own.held
  pub cells : (place : ℕ) → place < length a.seat.me.own.held
      → target b.seat.me place ≡ target a.seat.me place
  pub known : StaysKnown no_field_is_fixed (length a.seat.me.own.held) a b

pub carries_then : {a b c : Bound Sorting} → Carries a b → Carries b c → Carries a c
carries_then {a = a} {b = b} {c = c} first second =
    let within : (place : ℕ) → place < length a.seat.me.own.held
    → place < length b.seat.me.own.held =
    (λ place lt. let many = first.many in omega (arith, many, lt)) in
    record {
      pass = second.pass ∙ first.pass;
      many = let one = first.many in let two = second.many in omega (arith, one, two);
      cells = λ place lt. second.cells place (within place lt) ∙ first.cells place lt;
      known = λ place lt. still_then no_field_is_fixed (known_of a.seat.me place)
          (known_of b.seat.me place) (known_of c.seat.me place) (first.known place lt)
          (second.known place (within place lt));
    }

carries_held : (a b : Bound Sorting) (cells : List ℕ) → held_cells b ≡ held_cells a ++ cells
    → StaysKnown no_field_is_fixed (length a.seat.me.own.held) a b
    → b.seat.me.pass ≡ a.seat.me.pass → Carries a b
carries_held a b cells held known pass = record {
  pass = pass;
  many = let longer = many_held a b cells held in omega (arith, longer);
  cells = target_still a b cells held;
  known = known;
}

pub kept_carries : (a b : Bound Sorting) → Kept a b → Carries a b
kept_carries a b kept =
    carries_held a b [] (kept.held ∙ sym (append-nil (held_cells a)))
    (kept_known no_field_is_fixed (length a.seat.me.own.held) a b kept) kept.pass

module _ (a b : Bound Sorting) (place f : ℕ) (seen : Field)
    (there : place < length a.seat.me.own.held) where
  pub fetch_carries : Stepped HoldsSorted no_field_is_fixed (fetch_of a place f) same_pass
      (finds.Field seen) a b → Carries a b
  fetch_carries step =
      let load : Loaded no_field_is_fixed a b seen = fetched a b place f seen there step in
      carries_held a b (cells_found seen) load.held load.known
      (ap (λ (u : View Sorting). u.pass) step.event.new)

  pub read_carries : Stepped HoldsSorted no_field_is_fixed (read_of a place f) same_pass
      (finds.Field seen) a b → Carries a b
  read_carries step =
      let load : Loaded no_field_is_fixed a b seen = read_here a b place f seen there step in
      carries_held a b (cells_found seen) load.held load.known
      (ap (λ (u : View Sorting). u.pass) step.event.new)

-- What is known of a cell stays of its sort.
pub sort_lasts : (sort : Sort) (j k : Known) → KnownOfSort sort j
    → StillKnown no_field_is_fixed j k → KnownOfSort sort k
sort_lasts Boxes (knows.Boxed told) k is still =
    subst (λ (x : Known). KnownOfSort Boxes x) (sym still.1.0) tt
sort_lasts Boxes knows.Nothing k is still = absurd is
sort_lasts Boxes (knows.Raw fields) k is still = absurd is
sort_lasts Boxes (knows.Fresh fields) k is still = absurd is
sort_lasts Boxes (knows.Record t) k is still = absurd is
sort_lasts Records (knows.Record t) k is still =
    subst (λ (x : Known). KnownOfSort Records x) (sym still) tt
sort_lasts Records knows.Nothing k is still = absurd is
sort_lasts Records (knows.Raw fields) k is still = absurd is
sort_lasts Records (knows.Fresh fields) k is still = absurd is
sort_lasts Records (knows.Boxed told) k is still = absurd is

-- What is known as a record, or as a box that others may know, is settled.
pub sort_settled : (sort : Sort) (k : Known) → KnownOfSort sort k → settled k ≡ true
sort_settled Boxes (knows.Boxed told) is = refl
sort_settled Boxes knows.Nothing is = absurd is
sort_settled Boxes (knows.Raw fields) is = absurd is
sort_settled Boxes (knows.Fresh fields) is = absurd is
sort_settled Boxes (knows.Record t) is = absurd is
sort_settled Records (knows.Record t) is = refl
sort_settled Records knows.Nothing is = absurd is
sort_settled Records (knows.Raw fields) is = absurd is
sort_settled Records (knows.Fresh fields) is = absurd is
sort_settled Records (knows.Boxed told) is = absurd is

-- what is settled is still known
abbrev pub StillSettled : Bound Sorting → Bound Sorting → Type 0
StillSettled a b =
    (place : ℕ) → place < length a.seat.me.own.held → settled (known_of a.seat.me place) ≡ true
    → StillKnown no_field_is_fixed (known_of a.seat.me place) (known_of b.seat.me place)

-- what is held at a place stays of its sort where its cell stays and what is known of it, if that
-- is settled
pub as_lasts : (v w : View Sorting) (place : ℕ) (sort : Sort) → target w place ≡ target v place
    → (settled (known_of v place) ≡ true
    → StillKnown no_field_is_fixed (known_of v place) (known_of w place))
    → IsAs v place sort → IsAs w place sort
as_lasts v w zero Boxes cell known is = cell ∙ is
as_lasts v w (suc place) Boxes cell known is =
    sort_lasts Boxes (known_of v (suc place)) (known_of w (suc place)) is
    (known (sort_settled Boxes (known_of v (suc place)) is))
as_lasts v w place Records cell known is =
    sort_lasts Records (known_of v place) (known_of w place) is
    (known (sort_settled Records (known_of v place) is))

-- Records that are known.

pub known_there : (known : List Known) (place : ℕ) (t : Term)
    → known_at known place ≡ knows.Record t → place < length known
known_there [] place t is = absurd cc
known_there (k ∷ known) zero t is = omega arith
known_there (k ∷ known) (suc place) t is =
    let lt = known_there known place t is in omega (arith, lt)

module _ (a b : Bound Sorting) (still : StillSettled a b) where
  pub record_still : (place : ℕ) (t : Term) → place < length a.seat.me.own.held
      → known_of a.seat.me place ≡ knows.Record t → known_of b.seat.me place ≡ knows.Record t
  record_still place t lt is =
      subst (λ (k : Known). StillKnown no_field_is_fixed k (known_of b.seat.me place)) is
      (still place lt (ap settled is))

  pub still_records : length a.seat.me.known ≡ length a.seat.me.own.held
      → StillRecords a.seat.me.known b.seat.me.known
  still_records many place t is =
      record_still place t
      (let lt = known_there a.seat.me.known place t is in omega (arith, lt, many)) is

module _ (a b : Bound Sorting) (carries : Carries a b) where
  pub there_on : (place : ℕ) → place < length a.seat.me.own.held
      → place < length b.seat.me.own.held
  there_on place lt = let many = carries.many in omega (arith, many, lt)

  pub open_on : (place : ℕ) → place < length a.seat.me.own.held → IsOpen a.seat.me place
      → IsOpen b.seat.me place
  open_on place lt is =
      as_lasts a.seat.me b.seat.me place Boxes (carries.cells place lt)
      (λ is_settled. carries.known place lt) is

  pub sort_on : (place f : ℕ) → sort_at b.seat.me place f ≡ sort_at a.seat.me place f
  sort_on place f = ap (λ (p : Sorting). sort_of p.boxes place f) carries.pass

  pub stand_on : (sort : Sort) (value : Field) → MayStand a.seat.me sort value
      → MayStand b.seat.me sort value
  stand_on sort field.Null may = tt
  stand_on sort (field.Num n) may = tt
  stand_on sort (field.Cell c) may =
      let place = may.0 in
      let there = may.1.0 in (
        place,
        (
          there_on place there,
          (
            carries.cells place there ∙ may.1.1.0,
            sort_lasts sort (known_of a.seat.me place) (known_of b.seat.me place) may.1.1.1
                (carries.known place there),
          ),
        ),
      )

  pub show_on : (fresh : ℕ) → MayShow a.seat.me fresh → MayShow b.seat.me fresh
  show_on fresh may = record {
    there = there_on fresh may.there;
    fields = may.fields;
    known = subst (λ (k : Known). StillKnown no_field_is_fixed k (known_of b.seat.me fresh))
        may.known (carries.known fresh may.there);
    fits = λ f lt.
        stand_on (sort_of b.seat.me.pass.boxes 1 f) (slice_index_or may.fields f field.Null)
        (subst (λ (sort : Sort). MayStand a.seat.me sort
        (slice_index_or may.fields f field.Null)) (sym (sort_on 1 f)) (may.fits f lt));
  }
