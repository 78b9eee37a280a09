-- What the calls of a mutator ask of a place that is written and of a value, from what is known of
-- open places and of a new box.
use Rattle.std.proofs.Common.{◌≡◌, ◌<◌, ◌≤◌, ℕ, zero, suc, true, false, length}
use Rattle.std.proofs.Common.{refl, sym, ap, subst, arith}
use Rattle.std.proofs.lemmas.Bool.{lt-ltb}
use Rattle.cell_making.proofs.Naming.{is_box_of, sealed_value}
use Rattle.heap_rule.specs.Asks.{IsBox, IsSealedValue, is_sealed, known_of, target}
use Rattle.heap_rule.specs.NoRule.{no_field_is_fixed}
use Rattle.heap_rule.specs.declared.known.Known.{Known}
use Rattle.heap_rule.specs.declared.known.Known.TheVariants as knows
use Rattle.heap_rule.specs.declared.view.View.{View}
use Rattle.mutator_events.specs.declared.values.Value.{Value}
use Rattle.mutator_events.specs.declared.values.Value.TheVariants as values
use Rattle.mutator_events.specs.Values.{field_at}
use Rattle.mutator_seat.specs.Bound.{Bound, held_cells}
use Rattle.mutator_seat.specs.Stores.{MayOverwrite}
use Rattle.mutator_seat.specs.Writes.{IsNamed, MayUpdate}
use Rattle.sorted_rule.specs.Open.{IsOpen, KnownOfSort, MayShow, MayStand, sort_at}
use Rattle.sorted_rule.specs.Sorts.{Boxes, Records, Sort, sort_of}
use Rattle.sorted_rule.specs.declared.sorting.Sorting.{Sorting}
use Rattle.sorted_boxes.specs.Holding.{HoldsAs, IsAs}
use Rattle.sorted_boxes.specs.Sorts.{IsValue, SortList, holds_record, is_fit, sort_in}
use Rattle.sorted_boxes.proofs.SortLists.{box_in, held_fits}

-- Values.

-- The value may stand in this field.
abbrev pub MayGive : View Sorting → ℕ → ℕ → Value → Type 0
MayGive v place f value = MayStand v (sort_at v place f) (field_at v.own.held value)

sort_sealed : (sort : Sort) (k : Known) → KnownOfSort sort k → is_sealed k ≡ true
sort_sealed Boxes (knows.Boxed told) is = refl
sort_sealed Boxes knows.Nothing is = absurd is
sort_sealed Boxes (knows.Raw fields) is = absurd is
sort_sealed Boxes (knows.Fresh fields) is = absurd is
sort_sealed Boxes (knows.Record t) is = absurd is
sort_sealed Records (knows.Record t) is = refl
sort_sealed Records knows.Nothing is = absurd is
sort_sealed Records (knows.Raw fields) is = absurd is
sort_sealed Records (knows.Fresh fields) is = absurd is
sort_sealed Records (knows.Boxed told) is = absurd is

-- after the first place what is held is known as what its sort says
pub as_known : (v : View Sorting) (place : ℕ) (sort : Sort) → 1 ≤ place → IsAs v place sort
    → KnownOfSort sort (known_of v place)
as_known v zero sort some is = absurd (omega (arith, some))
as_known v (suc place) Boxes some is = is
as_known v (suc place) Records some is = is

-- and what is known so is held so
pub known_as : (v : View Sorting) (place : ℕ) (sort : Sort) → 1 ≤ place
    → KnownOfSort sort (known_of v place) → IsAs v place sort
known_as v zero sort some is = absurd (omega (arith, some))
known_as v (suc place) Boxes some is = is
known_as v (suc place) Records some is = is

pub value_named : (m : Bound Sorting) (value : Value) → IsValue (length m.seat.me.own.held) value
    → IsNamed m.seat.me.own.held value
value_named m values.Null is = tt
value_named m (values.Num n) is = lt-ltb n 4611686018427387904 is
value_named m (values.Held place) is = is.1

module _ (sorts : SortList) (m : Bound Sorting) (at : HoldsAs sorts m.seat.me) where
  -- where no record is held there is an open place
  pub box_open : (place : ℕ) → place < length m.seat.me.own.held
      → holds_record sorts place ≡ false → IsOpen m.seat.me place
  box_open place lt boxed =
      subst (λ (sort : Sort). IsAs m.seat.me place sort) (box_in sorts place boxed)
      (at.each place lt)

  pub held_known : (place : ℕ) → 1 ≤ place → place < length m.seat.me.own.held
      → KnownOfSort (sort_in sorts place) (known_of m.seat.me place)
  held_known place some lt =
      as_known m.seat.me place (sort_in sorts place) some (at.each place lt)

  value_stands : (sort : Sort) (value : Value) → IsValue (length m.seat.me.own.held) value
      → is_fit sorts sort value ≡ true
      → MayStand m.seat.me sort (field_at m.seat.me.own.held value)
  value_stands sort values.Null is fits = tt
  value_stands sort (values.Num n) is fits = tt
  value_stands sort (values.Held place) is fits = (
    place,
    (
      is.1,
      (
        refl,
        subst (λ (s : Sort). KnownOfSort s (known_of m.seat.me place))
            (held_fits sorts sort place fits) (held_known place is.0 is.1),
      ),
    ),
  )

  pub value_sealed : (value : Value) → IsValue (length m.seat.me.own.held) value
      → IsSealedValue (held_cells m) m.seat.me.known (field_at m.seat.me.own.held value)
  value_sealed values.Null is = tt
  value_sealed (values.Num n) is = tt
  value_sealed (values.Held place) is =
      sealed_value m place is.1 (sort_sealed (sort_in sorts place) (known_of m.seat.me place)
      (held_known place is.0 is.1))

  pub value_gives : (place f : ℕ) (value : Value) → IsValue (length m.seat.me.own.held) value
      → is_fit sorts (sort_of sorts.boxes place f) value ≡ true → MayGive m.seat.me place f value
  value_gives place f value is fits =
      subst (λ (boxes : ℕ). MayStand m.seat.me (sort_of boxes place f)
      (field_at m.seat.me.own.held value)) at.serves.boxes
      (value_stands (sort_of sorts.boxes place f) value is fits)

pub new_sealed : (m : Bound Sorting) (fresh : ℕ) → MayShow m.seat.me fresh
    → IsSealedValue (held_cells m) m.seat.me.known
    (field_at m.seat.me.own.held (values.Held fresh))
new_sealed m fresh may = sealed_value m fresh may.there (ap is_sealed may.known)

-- Places.

box_is : (cell : ℕ) (k : Known) → KnownOfSort Boxes k → IsBox cell k
box_is cell (knows.Boxed told) is = tt
box_is cell knows.Nothing is = absurd is
box_is cell (knows.Raw fields) is = absurd is
box_is cell (knows.Fresh fields) is = absurd is
box_is cell (knows.Record t) is = absurd is

open_is_box : (v : View Sorting) (place : ℕ) → IsOpen v place
    → IsBox (target v place) (known_of v place)
open_is_box v zero is = is_box_of (target v 0) (known_of v 0) is
open_is_box v (suc place) is = box_is (target v (suc place)) (known_of v (suc place)) is

none_fixed : (f cell : ℕ) → no_field_is_fixed f ≡ true → cell ≡ 0
none_fixed f cell fixed = absurd cc

-- a new box may be named in a field of its own
pub may_name : (m : Bound Sorting) (fresh f : ℕ) → m.seat.me.presence.inside ≡ true
    → MayShow m.seat.me fresh → f ≤ 4
    → MayUpdate no_field_is_fixed m.seat.me fresh f values.Null (values.Held fresh)
may_name m fresh f inside may payload = record {
  inside = inside;
  there = may.there;
  payload = payload;
  box = subst (λ (k : Known). IsBox (target m.seat.me fresh) k) (sym may.known) tt;
  old_named = tt;
  new_named = may.there;
  sealed = new_sealed m fresh may;
  spares = none_fixed f (target m.seat.me fresh);
}

module _ (m : Bound Sorting) (place f : ℕ) (inside : m.seat.me.presence.inside ≡ true)
    (there : place < length m.seat.me.own.held) (open_is : IsOpen m.seat.me place)
    (payload : f ≤ 4) (new : Value) (named : IsNamed m.seat.me.own.held new)
    (sealed : IsSealedValue (held_cells m) m.seat.me.known (field_at m.seat.me.own.held new)) where
  pub may_overwrite : length m.seat.me.own.held < m.seat.me.room
      → MayOverwrite no_field_is_fixed m.seat.me place f new
  may_overwrite room = record {
    inside = inside;
    there = there;
    payload = payload;
    box = open_is_box m.seat.me place open_is;
    new_named = named;
    sealed = sealed;
    spares = none_fixed f (target m.seat.me place);
    room = room;
  }

  pub may_update : (old : Value) → IsNamed m.seat.me.own.held old
      → MayUpdate no_field_is_fixed m.seat.me place f old new
  may_update old old_named = record {
    inside = inside;
    there = there;
    payload = payload;
    box = open_is_box m.seat.me place open_is;
    old_named = old_named;
    new_named = named;
    sealed = sealed;
    spares = none_fixed f (target m.seat.me place);
  }
