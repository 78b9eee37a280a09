-- What a store in a field leaves, or the read and the exchange in its place: of the trail, and of
-- what is known.
use Rattle.std.proofs.Common.{◌≡◌, ◌≢◌, ◌<◌, ℕ, Bool, true, List, [], ◌++◌, get_or, length}
use Rattle.std.proofs.Common.{refl, sym, ◌∙◌, ap, subst, arith}
use Rattle.std.proofs.lemmas.List.{append-nil}
use Rattle.cell_words.specs.declared.fields.Field.{Field}
use Rattle.cell_words.specs.declared.fields.Field.TheVariants as field
use Rattle.cell_words.specs.declared.write_barrier.Barrier.{Barrier}
use Rattle.core_machine.specs.declared.events.Event.{Event}
use Rattle.core_machine.specs.declared.events.Found.{Found}
use Rattle.core_machine.specs.declared.events.Found.TheVariants as finds
use Rattle.core_machine.specs.declared.pending.Pending.{Pending}
use Rattle.core_machine.specs.Own.{pending_or_none, presence_after}
use Rattle.heap_rule.specs.declared.known.Known.{Known}
use Rattle.heap_rule.specs.declared.known.Known.TheVariants as knows
use Rattle.heap_rule.specs.declared.known.Learned.{Learned}
use Rattle.heap_rule.specs.declared.view.View.{View}
use Rattle.heap_rule.specs.Asks.{begun_of, known_of, target}
use Rattle.heap_rule.specs.Boxes.{Map}
use Rattle.heap_rule.specs.Lore.{cells_in, known_at, known_stored, known_stored_if, was_made}
use Rattle.heap_rule.proofs.Reading.{cell_there}
use Rattle.heap_rule.proofs.SameFields.{same_value}
use Rattle.mutator_events.specs.declared.values.Value.{Value}
use Rattle.mutator_events.specs.declared.values.Value.TheVariants as values
use Rattle.mutator_events.specs.Values.{field_at, value_found}
use Rattle.mutator_seat.specs.Bound.{Bound, held_cells}
use Rattle.mutator_seat.specs.Stores.{Exchanged, Overwritten, Rewritten, Stepped}
use Rattle.mutator_seat.specs.Stores.{fetch_of, read_of, told_by}
use Rattle.mutator_seat.specs.Stretches.{Kept, MarksOf}
use Rattle.mutator_seat.specs.Writes.{IsNamed, wanted_by}
use Rattle.mutator_seat.proofs.Writes.{field_same, many_same, named_same}
use Rattle.trails.specs.Asks.{nothing}
use Rattle.held_places.specs.Calls.{Goes, KnownNamed, Overwrote, StaysKnown, StillKnown}
use Rattle.held_places.specs.Calls.{cells_found, known_fresh}
use Rattle.held_places.proofs.Storing.{stored_box, stored_if_still}
use Rattle.held_places.proofs.Going.{calm_goes, cut_goes, cut_known}
use Rattle.held_places.proofs.Going.{goes_late, goes_none, goes_then, goes_told, kept_known}
use Rattle.held_places.proofs.Going.{many_cells, many_held, still_on, still_then}
use Rattle.held_places.proofs.Going.{target_still}
use Rattle.held_places.proofs.Steps.{loaded_held, loaded_known, loaded_many, was_read}

-- What the fetch or the read leaves.
pub record Loaded {P : Type 0} (fixed : ℕ → Bool) (old new : Bound P) (seen : Field) : Type 0 where
  pub goes : Goes [] old new
  pub held : held_cells new ≡ held_cells old ++ cells_found seen
  pub known : StaysKnown fixed (length old.seat.me.own.held) old new
  pub many : length new.seat.me.known ≡ length new.seat.me.own.held

module _ {P : Type 0} {fixed : ℕ → Bool} {holds : Map → List P → Type 0}
    {next : Learned → Found → P → P} (a b : Bound P) (place f : ℕ) (seen : Field)
    (there : place < length a.seat.me.own.held) where
  pub fetched : Stepped holds fixed (fetch_of a place f) next (finds.Field seen) a b
      → Loaded fixed a b seen
  fetched step =
      let e = step.event in
      let tells = told_by step in
      let known = ap (λ (u : View P). u.known) e.new in
      let cells = ap (λ (u : View P). cells_in u.own.held) e.new in
      record {
        goes = goes_told a b [] (fetch_of a place f) (finds.Field seen) tells
            (next tells (finds.Field seen) a.seat.me.pass) step.heap step.table e.new refl nothing;
        held = loaded_held fixed a b e.core e.lore e.mine place seen tells there refl known cells;
        known = loaded_known fixed a b e.core e.lore e.mine place seen tells there refl known cells;
        many = loaded_many fixed a b e.core e.lore e.mine place seen tells there refl known cells;
      }

  pub read_here : Stepped holds fixed (read_of a place f) next (finds.Field seen) a b
      → Loaded fixed a b seen
  read_here step =
      let read =
      was_read fixed holds next a b place f seen step.heap step.table there step.event in
      record {
        goes = goes_late read.goes (goes_none b);
        held = read.holds.held;
        known = read.holds.known;
        many = read.many;
      }

-- what the fetch has begun
pub fetch_begun : {P : Type 0} {fixed : ℕ → Bool} {holds : Map → List P → Type 0}
    {next : Learned → Found → P → P} (a b : Bound P) (place f : ℕ) (seen : Field)
    → Stepped holds fixed (fetch_of a place f) next (finds.Field seen) a b
    → begun_of b.seat.me ≡ record { place = place; f = f; found = seen }
fetch_begun {P = P} a b place f seen step =
    ap (λ (u : View P). pending_or_none u.own.pending) step.event.new

-- a value stands for the same field when cells are held after the places that were there
field_front : {P : Type 0} (a b : Bound P) (cells : List ℕ) → held_cells b ≡ held_cells a ++ cells
    → (v : Value) → IsNamed a.seat.me.own.held v
    → field_at b.seat.me.own.held v ≡ field_at a.seat.me.own.held v
field_front a b cells is values.Null named = refl
field_front a b cells is (values.Num n) named = refl
field_front a b cells is (values.Held place) named =
    ap (λ (c : ℕ). field.Cell c) (target_still a b cells is place named)

-- After the load and the marks an event writes, and the places from before are kept.
module _ {P : Type 0} {fixed : ℕ → Bool} {holds : Map → List P → Type 0} {wanted : Barrier}
    {loads : Event} {reads next : Learned → Found → P → P} {writes : Bound P → Event}
    {found : Found} (seen : Field) (value : Value) (old after : Bound P)
    (is : Rewritten holds fixed wanted loads reads seen writes next found value old after)
    (load : Loaded fixed old is.replaced.loaded seen) (place f : ℕ) (made : Bool)
    (there : place < length old.seat.me.own.held) (named : IsNamed old.seat.me.own.held value)
    (known_is : is.written.seat.me.known ≡ known_stored_if made (held_cells is.replaced.at)
    is.replaced.at.seat.me.known place f (field_at is.replaced.at.seat.me.own.held value))
    (presence : presence_after is.replaced.at.seat.me.presence (writes is.replaced.at) found
    ≡ is.replaced.at.seat.me.presence) where
  abbrev loaded : Bound P
  loaded = is.replaced.loaded

  abbrev at : Bound P
  at = is.replaced.at

  abbrev kept : Kept loaded at
  kept = is.replaced.marks.kept

  held_at : held_cells at ≡ held_cells old ++ cells_found seen
  held_at = kept.held ∙ load.held

  cells_at : (p : ℕ) → p < length old.seat.me.own.held
      → get_or (held_cells at) p 0 ≡ target old.seat.me p
  cells_at p lt =
      cell_there at.seat.me.own.held p ∙ target_still old at (cells_found seen) held_at p lt

  many_at : length at.seat.me.known ≡ length (held_cells at)
  many_at = ap (λ (ks : List Known). length ks) kept.known ∙ load.many ∙ sym (many_cells loaded)
      ∙ sym (ap (λ (cs : List ℕ). length cs) kept.held)

  within : (p : ℕ) → p < length old.seat.me.own.held → p < length (held_cells at)
  within p lt =
      let long = many_cells at in
      let more = many_held old at (cells_found seen) held_at in
      omega (arith, lt, long, more)

  value_at : field_at at.seat.me.own.held value ≡ field_at old.seat.me.own.held value
  value_at = field_front old at (cells_found seen) held_at value named

  wrote : (p : ℕ) → p < length old.seat.me.own.held
      → (known_fresh (known_of at.seat.me p) ≡ true
      → target old.seat.me p ≢ target old.seat.me place)
      → (known_fresh (known_of at.seat.me p) ≡ true → (c : ℕ)
      → field_at old.seat.me.own.held value ≡ field.Cell c → target old.seat.me p ≢ c)
      → StillKnown fixed (known_of at.seat.me p) (known_of is.written.seat.me p)
  wrote p lt apart unnamed =
      subst (λ (ks : List Known). StillKnown fixed (known_of at.seat.me p) (known_at ks p))
      (sym known_is)
      (stored_if_still fixed made (held_cells at) at.seat.me.known place f
      (field_at at.seat.me.own.held value) many_at p (within p lt)
      (λ fresh same. apart fresh (sym (cells_at p lt) ∙ same ∙ cells_at place there))
      (λ fresh c names same. unnamed fresh c (sym value_at ∙ names) (sym (cells_at p lt) ∙ same)))

  rewrote : Overwrote fixed old after place value
  rewrote = record {
    goes =
        goes_then load.goes
        (goes_then
        (calm_goes (MarksOf old.seat.me.number
        (wanted_by wanted (value_found (length old.seat.me.own.held) seen) value)) loaded at
        is.replaced.marks)
        (goes_then
        (goes_told at is.written [] (writes at) found (told_by is.replaced.write)
        (next (told_by is.replaced.write) found at.seat.me.pass)
        is.replaced.write.heap is.replaced.write.table is.replaced.write.event.new presence nothing)
        (cut_goes is.written after (length old.seat.me.own.held) _ is.told)));
    known = λ other lt apart unnamed.
        still_on fixed (known_of old.seat.me other) (known_of at.seat.me other)
        (known_of after.seat.me other)
        (still_then fixed (known_of old.seat.me other) (known_of loaded.seat.me other)
        (known_of at.seat.me other) (load.known other lt)
        (kept_known fixed (length old.seat.me.own.held) loaded at kept other lt))
        (λ same. still_then fixed (known_of at.seat.me other) (known_of is.written.seat.me other)
        (known_of after.seat.me other)
        (wrote other lt (λ fresh. apart (sym same ∙ fresh)) (λ fresh. unnamed (sym same ∙ fresh)))
        (cut_known fixed is.written after (length old.seat.me.own.held) _ is.told other lt));
  }

  -- a fresh box that the value names
  rewrote_box : made ≡ true → KnownNamed old after value
  rewrote_box wrote_it other fields lt names fresh =
      let names_now : field_at at.seat.me.own.held value
      ≡ field.Cell (get_or (held_cells at) other 0) =
      value_at ∙ names ∙ ap (λ (c : ℕ). field.Cell c) (sym (cells_at other lt)) in
      let fresh_now : known_of at.seat.me other ≡ knows.Fresh fields =
      ap (λ (ks : List Known). known_at ks other) kept.known
      ∙ subst (λ (k : Known). StillKnown fixed k (known_of loaded.seat.me other)) fresh
      (load.known other lt) in
      let boxed : known_of is.written.seat.me other ≡ knows.Boxed [] =
      ap (λ (ks : List Known). known_at ks other) known_is
      ∙ ap (λ (b : Bool). known_at (known_stored_if b (held_cells at) at.seat.me.known place f
      (field_at at.seat.me.own.held value)) other) wrote_it
      ∙ ap (λ (w : Field). known_at (known_stored (held_cells at) at.seat.me.known place f w) other)
      names_now
      ∙ stored_box (held_cells at) at.seat.me.known place f many_at other fields (within other lt)
      fresh_now in
      let last = subst (λ (k : Known). StillKnown fixed k (known_of after.seat.me other)) boxed
      (cut_known fixed is.written after (length old.seat.me.own.held) _ is.told other lt) in
      (last.0, last.1.0)

-- the look before it
looked_first : {P : Type 0} {fixed : ℕ → Bool} (old looked after : Bound P) (place : ℕ)
    (value : Value) → Goes [] old looked → Kept old looked
    → place < length old.seat.me.own.held → Overwrote fixed looked after place value
    → Overwrote fixed old after place value
looked_first {fixed = fixed} old looked after place value goes kept there wrote =
    let same_target : (p : ℕ) → p < length old.seat.me.own.held
    → target looked.seat.me p ≡ target old.seat.me p =
    target_still old looked [] (kept.held ∙ sym (append-nil (held_cells old))) in
    let same_value = field_same looked.seat.me.own.held old.seat.me.own.held kept.held value in
    record {
      goes = goes_then goes wrote.goes;
      known = λ other lt apart unnamed.
          still_on fixed (known_of old.seat.me other) (known_of looked.seat.me other)
          (known_of after.seat.me other)
          (kept_known fixed (length old.seat.me.own.held) old looked kept other lt)
          (λ same. wrote.known other
          (let long = many_same looked.seat.me.own.held
          old.seat.me.own.held kept.held in omega (arith, long, lt))
          (λ fresh on. apart (sym same ∙ fresh)
          (sym (same_target other lt) ∙ on ∙ same_target place there))
          (λ fresh c names on. unnamed (sym same ∙ fresh) c (sym same_value ∙ names)
          (sym (same_target other lt) ∙ on)));
    }

looked_box : {P : Type 0} (old looked after : Bound P) (value : Value) → Kept old looked
    → KnownNamed looked after value → KnownNamed old after value
looked_box old looked after value kept named other fields lt names fresh =
    named other fields
    (let long = many_same looked.seat.me.own.held old.seat.me.own.held kept.held in
    omega (arith, long, lt))
    (field_same looked.seat.me.own.held old.seat.me.own.held kept.held value ∙ names
    ∙ ap (λ (c : ℕ). field.Cell c) (sym (target_still old looked []
    (kept.held ∙ sym (append-nil (held_cells old))) other lt)))
    (ap (λ (ks : List Known). known_at ks other) kept.known ∙ fresh)

-- The two ways.

module _ {P : Type 0} (old looked : Bound P) (look : Kept old looked) where
  there_still : (place : ℕ) → place < length old.seat.me.own.held
      → place < length looked.seat.me.own.held
  there_still place there =
      let long = many_same looked.seat.me.own.held old.seat.me.own.held look.held in
      omega (arith, long, there)

  named_still : (value : Value) → IsNamed old.seat.me.own.held value
      → IsNamed looked.seat.me.own.held value
  named_still value named =
      named_same old.seat.me.own.held looked.seat.me.own.held (sym look.held) value named

module _ {P : Type 0} {fixed : ℕ → Bool} {holds : Map → List P → Type 0}
    {next : Learned → Found → P → P} (old after : Bound P) (place f : ℕ) (value : Value)
    (there : place < length old.seat.me.own.held) (named : IsNamed old.seat.me.own.held value)
  where
    module _ (is : Overwritten holds fixed next old place f value after) where
      abbrev storing : Bound P
      storing = is.rewritten.replaced.at

      abbrev now : place < length is.looked.seat.me.own.held
      now = there_still old is.looked is.look.kept place there

      known_then : is.rewritten.written.seat.me.known ≡ known_stored_if true (held_cells storing)
          storing.seat.me.known place f (field_at storing.seat.me.own.held value)
      known_then =
          let done = is.rewritten.replaced in
          let begun : begun_of storing.seat.me ≡ record { place = place; f = f; found = is.seen } =
          ap pending_or_none done.marks.kept.pending
          ∙ fetch_begun is.looked done.loaded place f is.seen done.load in
          ap (λ (u : View P). u.known) done.write.event.new
          ∙ ap (λ (w : Pending). known_stored_if true (held_cells storing) storing.seat.me.known w.place w.f
          (field_at storing.seat.me.own.held value)) begun

      load : Loaded fixed is.looked is.rewritten.replaced.loaded is.seen
      load = fetched is.looked is.rewritten.replaced.loaded place f is.seen now
          is.rewritten.replaced.load

      pub overwrote : Overwrote fixed old after place value
      overwrote =
          looked_first old is.looked after place value (calm_goes _ old is.looked is.look)
          is.look.kept there
          (rewrote is.seen value is.looked after is.rewritten load place f true now
          (named_still old is.looked is.look.kept value named) known_then refl)

      pub overwrote_box : KnownNamed old after value
      overwrote_box =
          looked_box old is.looked after value is.look.kept
          (rewrote_box is.seen value is.looked after is.rewritten load place f true now
          (named_still old is.looked is.look.kept value named) known_then refl refl)

    pub exchanged : {reads : Learned → Found → P → P} (seen found : Field)
        → Exchanged holds fixed reads next old place f value seen found after
        → Overwrote fixed old after place value
    exchanged seen found is =
        let looked = is.looked in
        let done = is.rewritten in
        let now = there_still old looked is.look.kept place there in
        looked_first old looked after place value (calm_goes _ old looked is.look) is.look.kept
        there
        (rewrote seen value looked after done
        (read_here looked done.replaced.loaded place f seen now done.replaced.load)
        place f (was_made seen (finds.Field found)) now
        (named_still old looked is.look.kept value named)
        (ap (λ (u : View P). u.known) done.replaced.write.event.new) refl)

    pub exchanged_box : {reads : Learned → Found → P → P} (seen : Field)
        → Exchanged holds fixed reads next old place f value seen seen after
        → KnownNamed old after value
    exchanged_box seen is =
        let looked = is.looked in
        let done = is.rewritten in
        let now = there_still old looked is.look.kept place there in
        looked_box old looked after value is.look.kept
        (rewrote_box seen value looked after done
        (read_here looked done.replaced.loaded place f seen now done.replaced.load)
        place f (was_made seen (finds.Field seen)) now
        (named_still old looked is.look.kept value named)
        (ap (λ (u : View P). u.known) done.replaced.write.event.new) refl
        (same_value seen seen refl))
