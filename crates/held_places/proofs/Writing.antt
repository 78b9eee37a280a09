-- What a write with a picked pass leaves: the trail, the held list, and what is known.
use Rattle.std.proofs.Common.{◌≡◌, ◌≢◌, ◌<◌, ℕ, Bool, true, false, List, [], ◌∷◌, get_or}
use Rattle.std.proofs.Common.{length, Result, Ok, Err, OnOk, IfErr, refl, sym, ◌∙◌, ap, subst}
use Rattle.std.proofs.Common.{arith}
use Rattle.cell_words.specs.declared.fields.Field.{Field}
use Rattle.cell_words.specs.declared.fields.Field.TheVariants as field
use Rattle.core_machine.specs.declared.events.Event.{Event}
use Rattle.core_machine.specs.declared.events.Found.{Found}
use Rattle.core_machine.specs.declared.events.Found.TheVariants as finds
use Rattle.core_machine.specs.Words.{same_field}
use Rattle.heap_rule.specs.declared.known.Known.{Known}
use Rattle.heap_rule.specs.declared.known.Learned.{Learned}
use Rattle.heap_rule.specs.declared.view.View.{View}
use Rattle.heap_rule.specs.Asks.{known_of, target}
use Rattle.heap_rule.specs.Boxes.{Map}
use Rattle.heap_rule.specs.Lore.{known_at, known_stored, known_stored_if, learned, was_made}
use Rattle.heap_rule.proofs.Reading.{cell_there}
use Rattle.mutator_events.specs.declared.values.Value.{Value}
use Rattle.mutator_events.specs.Values.{field_at}
use Rattle.mutator_seat.specs.Bound.{Bound, held_cells}
use Rattle.mutator_seat.specs.Writes.{LookAndMarks, Updated, write_of}
use Rattle.mutator_seat.proofs.Writes.{cell_same, field_same, many_same}
use Rattle.trails.specs.Asks.{here, nothing, wrote_at}
use Rattle.held_places.specs.Calls.{Goes, KnownNamed, StillKnown, known_fresh}
use Rattle.held_places.proofs.Storing.{stored_box, stored_if_still}
use Rattle.held_places.proofs.Going.{calm_goes, goes_none, goes_on, goes_then, goes_told}
use Rattle.held_places.proofs.Going.{many_cells}

-- whichever way the write ended
pub either_way : {U : Field → Type 0} {M : Type 0} (found : M → Field) (expected : Field)
    (r : Result (Unit {0}) M) → OnOk r (U expected)
    → IfErr r (λ m. (same_field (found m) expected ≡ false) × U (found m)) → (x : Field) × U x
either_way found expected (Ok u) made moved = (expected, made)
either_way found expected (Err m) made moved = (found m, moved.1)

module _ {P : Type 0} (fixed : ℕ → Bool) (holds : Map → List P → Type 0)
    (next : Learned → Found → P → P)
    (a b : Bound P) (place f : ℕ) (old new : Value) (found : Field)
    (wrote : Updated holds fixed next a place f old new found b) where
  abbrev at : Bound P
  at = wrote.at

  abbrev write : Event
  write = write_of at place f old new

  abbrev tells : Learned
  tells = learned wrote.event.core wrote.event.lore write

  -- the trail shows the write, with the values that stood for the fields before it
  pub wrote_shown : Goes (wrote_at (target a.seat.me place) f (field_at a.seat.me.own.held old)
      (field_at a.seat.me.own.held new) found ∷ []) a b
  wrote_shown =
      let same = wrote.calm.kept.held in
      goes_then
      (calm_goes (LookAndMarks a.seat.me.number a.seat.me.presence.status old new) a at wrote.calm)
      (goes_told at b (wrote_at (target a.seat.me place) f (field_at a.seat.me.own.held old)
      (field_at a.seat.me.own.held new) found ∷ []) write (finds.Field found) tells
      (next tells (finds.Field found) at.seat.me.pass) (wrote.heap ∙ sym wrote.calm.kept.heap)
      (wrote.table ∙ sym wrote.calm.kept.table) wrote.event.new refl
      (here (
        cell_same at.seat.me.own.held a.seat.me.own.held same place,
        refl,
        field_same at.seat.me.own.held a.seat.me.own.held same old,
        field_same at.seat.me.own.held a.seat.me.own.held same new,
        refl,
      ) nothing))

  pub wrote_goes : Goes [] a b
  wrote_goes = goes_on (goes_none a) wrote_shown

  abbrev cells : List ℕ
  cells = held_cells at

  cell_at_is : (other : ℕ) → get_or cells other 0 ≡ target a.seat.me other
  cell_at_is other = ap (λ (cs : List ℕ). get_or cs other 0) wrote.calm.kept.held
      ∙ cell_there a.seat.me.own.held other

  -- What was known at a place; a fresh cell there is neither the one that is written nor the one
  -- that the value names.
  pub wrote_known : length a.seat.me.known ≡ length a.seat.me.own.held → (other : ℕ)
      → other < length a.seat.me.own.held
      → (known_fresh (known_of a.seat.me other) ≡ true
      → target a.seat.me other ≢ target a.seat.me place)
      → (known_fresh (known_of a.seat.me other) ≡ true
      → (c : ℕ) → field_at a.seat.me.own.held new ≡ field.Cell c → target a.seat.me other ≢ c)
      → StillKnown fixed (known_of a.seat.me other) (known_of b.seat.me other)
  wrote_known many other lt apart unnamed =
      let same = many_same at.seat.me.own.held a.seat.me.own.held wrote.calm.kept.held in
      let long = many_cells at in
      let known = ap (λ (ks : List Known). length ks) wrote.calm.kept.known in
      let here : known_of at.seat.me other ≡ known_of a.seat.me other =
      ap (λ (ks : List Known). known_at ks other) wrote.calm.kept.known in
      subst (λ (k : Known). StillKnown fixed k (known_of b.seat.me other)) here
      (subst (λ (k : Known). StillKnown fixed (known_of at.seat.me other) k)
      (sym (ap (λ (u : View P). known_of u other) wrote.event.new))
      (stored_if_still fixed (was_made (field_at at.seat.me.own.held old) (finds.Field found)) cells
      at.seat.me.known place f (field_at at.seat.me.own.held new)
      (omega (arith, known, many, long, same)) other (omega (arith, lt, long, same))
      (λ is on. apart (sym (ap known_fresh here) ∙ is)
      (sym (cell_at_is other) ∙ on ∙ cell_at_is place))
      (λ is c named on. unnamed (sym (ap known_fresh here) ∙ is) c
      (sym (field_same at.seat.me.own.held a.seat.me.own.held wrote.calm.kept.held new) ∙ named)
      (sym (cell_at_is other) ∙ on))))

  -- a fresh box that the value names, where the write was made
  pub wrote_box : length a.seat.me.known ≡ length a.seat.me.own.held
      → same_field found (field_at a.seat.me.own.held old) ≡ true → KnownNamed a b new
  wrote_box many made other fields lt names fresh =
      let held = wrote.calm.kept.held in
      let same = many_same at.seat.me.own.held a.seat.me.own.held held in
      let long = many_cells at in
      let known = ap (λ (ks : List Known). length ks) wrote.calm.kept.known in
      let ks = at.seat.me.known in
      let made_now : was_made (field_at at.seat.me.own.held old) (finds.Field found) ≡ true =
      ap (λ (w : Field). same_field found w)
      (field_same at.seat.me.own.held a.seat.me.own.held held old) ∙ made in
      let names_now : field_at at.seat.me.own.held new ≡ field.Cell (get_or cells other 0) =
      field_same at.seat.me.own.held a.seat.me.own.held held new ∙ names
      ∙ ap (λ (c : ℕ). field.Cell c) (sym (cell_at_is other)) in (
        [],
        ap (λ (u : View P). known_of u other) wrote.event.new
            ∙ ap (λ (b : Bool). known_at (known_stored_if b cells ks place f
            (field_at at.seat.me.own.held new)) other) made_now
            ∙ ap (λ (w : Field). known_at (known_stored cells ks place f w) other) names_now
            ∙ stored_box cells ks place f (omega (arith, known, many, long, same)) other fields
            (omega (arith, lt, long, same))
            (ap (λ (ks : List Known). known_at ks other) wrote.calm.kept.known ∙ fresh),
      )
