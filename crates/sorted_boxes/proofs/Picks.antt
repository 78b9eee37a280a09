-- The rule at each moment at which a write of a call may come.
use Rattle.std.proofs.Common.{◌≡◌, ◌<◌, ℕ, length, refl, sym, ◌∙◌, ap, subst}
use Rattle.cell_words.specs.declared.fields.Field.{Field}
use Rattle.cell_words.specs.declared.fields.Field.TheVariants as field
use Rattle.core_machine.specs.Own.{pending_or_none}
use Rattle.core_machine.specs.declared.events.Event.TheVariants as event
use Rattle.core_machine.specs.declared.pending.Pending.{Pending}
use Rattle.heap_rule.specs.Asks.{begun_of}
use Rattle.heap_rule.specs.NoRule.{no_field_is_fixed}
use Rattle.heap_rule.specs.Steps.{Picks, same_pass}
use Rattle.heap_rule.specs.declared.view.View.{View}
use Rattle.heap_rule.proofs.Picking.{read_picks}
use Rattle.held_places.proofs.Overwriting.{fetch_begun}
use Rattle.mutator_events.specs.declared.values.Value.{Value}
use Rattle.mutator_events.specs.declared.values.Value.TheVariants as values
use Rattle.mutator_events.specs.Values.{field_at}
use Rattle.mutator_seat.specs.Bound.{Bound}
use Rattle.mutator_seat.specs.Stores.{PicksOverwrite}
use Rattle.mutator_seat.specs.Writes.{IsNamed, PicksUpdate}
use Rattle.sorted_rule.specs.Open.{IsOpen, MayShow, MayStand, sort_at}
use Rattle.sorted_rule.specs.Sorted.{HoldsSorted}
use Rattle.sorted_rule.specs.Sorts.{Boxes, Sort}
use Rattle.sorted_rule.specs.declared.sorting.Sorting.{Sorting}
use Rattle.sorted_rule.proofs.Picking.{itself_picks, store_picks, write_picks}
use Rattle.sorted_boxes.proofs.Carrying.{Carries, carries_then, fetch_carries, kept_carries}
use Rattle.sorted_boxes.proofs.Carrying.{open_on, read_carries, show_on, sort_on, stand_on, there_on}
use Rattle.sorted_boxes.proofs.Giving.{MayGive}

-- A value that may be given may be given later.
module _ (a b : Bound Sorting) (carries : Carries a b) where
  field_on : (value : Value) → IsNamed a.seat.me.own.held value
      → field_at b.seat.me.own.held value ≡ field_at a.seat.me.own.held value
  field_on values.Null named = refl
  field_on (values.Num n) named = refl
  field_on (values.Held place) named = ap field.Cell (carries.cells place named)

  give_on : (place f : ℕ) (value : Value) → IsNamed a.seat.me.own.held value
      → MayGive a.seat.me place f value → MayGive b.seat.me place f value
  give_on place f value named may =
      subst (λ (x : Field). MayStand b.seat.me (sort_at b.seat.me place f) x)
      (sym (field_on value named))
      (subst (λ (sort : Sort). MayStand b.seat.me sort (field_at a.seat.me.own.held value))
      (sym (sort_on a b carries place f))
      (stand_on a b carries (sort_at a.seat.me place f) (field_at a.seat.me.own.held value) may))

-- The write of it.
module _ (v : View Sorting) (place f : ℕ) (there : place < length v.own.held)
    (open_is : IsOpen v place) where
  write_gives : (old : Field) (value : Value) → MayGive v place f value
      → Picks HoldsSorted no_field_is_fixed same_pass v
      (event.Write v.number place f old (field_at v.own.held value))
  write_gives old value may =
      write_picks v place f there open_is old (field_at v.own.held value) may

  store_gives : (begun_of v).place ≡ place → (begun_of v).f ≡ f → (value : Value)
      → MayGive v place f value
      → Picks HoldsSorted no_field_is_fixed same_pass v
      (event.Store v.number (field_at v.own.held value))
  store_gives place_is f_is value may =
      store_picks v place f there open_is place_is f_is (field_at v.own.held value) may

module _ (a : Bound Sorting) (place f : ℕ) (there : place < length a.seat.me.own.held)
    (open_is : IsOpen a.seat.me place) (value : Value) (named : IsNamed a.seat.me.own.held value)
    (may : MayGive a.seat.me place f value) where
  pub picks_store : PicksOverwrite HoldsSorted no_field_is_fixed same_pass same_pass a place f value
  picks_store = record {
    store = λ looked look same. λ loaded at seen step marks presence.
        let first = kept_carries a looked look in
        let now = there_on a looked first place there in
        let all = carries_then (carries_then first
        (fetch_carries looked loaded place f seen now step)) (kept_carries loaded at marks) in
        let begun : begun_of at.seat.me ≡ record { place = place; f = f; found = seen } =
        ap pending_or_none marks.pending ∙ fetch_begun looked loaded place f seen step in
        store_gives at.seat.me place f (there_on a at all place there)
        (open_on a at all place there open_is) (ap (λ (w : Pending). w.place) begun)
        (ap (λ (w : Pending). w.f) begun) value (give_on a at all place f value named may);
    read = λ looked look same.
        read_picks HoldsSorted no_field_is_fixed looked.seat.me looked.seat.me.number place f;
    exchange = λ looked look same. λ loaded at seen step marks presence.
        let first = kept_carries a looked look in
        let now = there_on a looked first place there in
        let all = carries_then (carries_then first
        (read_carries looked loaded place f seen now step)) (kept_carries loaded at marks) in
        write_gives at.seat.me place f (there_on a at all place there)
        (open_on a at all place there open_is) seen value
        (give_on a at all place f value named may);
  }

  pub picks_update : (old : Value)
      → PicksUpdate HoldsSorted no_field_is_fixed same_pass a place f old value
  picks_update old at kept presence =
      let all = kept_carries a at kept in
      write_gives at.seat.me place f (there_on a at all place there)
      (open_on a at all place there open_is) (field_at at.seat.me.own.held old) value
      (give_on a at all place f value named may)

-- A new box names itself.
pub picks_itself : (a : Bound Sorting) (fresh f : ℕ) → MayShow a.seat.me fresh
    → sort_at a.seat.me 1 f ≡ Boxes → (old : Value)
    → PicksUpdate HoldsSorted no_field_is_fixed same_pass a fresh f old (values.Held fresh)
picks_itself a fresh f may sort_is old at kept presence =
    let all = kept_carries a at kept in
    itself_picks at.seat.me fresh f (show_on a at all fresh may) (sort_on a at all 1 f ∙ sort_is)
    (field_at at.seat.me.own.held old)
