-- A store of a field: what it needs stands after its look, its load and its marks, and what it
-- leaves.
use Rattle.std.proofs.Common.{◌≡◌, ◌<◌, ◌≤◌, ℕ, Bool, true, false, List, [], ◌∷◌, ◌++◌, length}
use Rattle.std.proofs.Common.{take, refl, sym, ◌∙◌, ap, subst, arith, Option, Some, None}
use Rattle.std.proofs.Common.{is_some, Result, Ok, Err, OnOk, IfErr}
use Rattle.std.proofs.lemmas.List.{append-nil}
use Rattle.cell_words.specs.Field.{IsValidField}
use Rattle.cell_words.specs.Modes.{barrier_of}
use Rattle.cell_words.specs.declared.controls.Control.{Control}
use Rattle.cell_words.specs.declared.fields.Field.{Field}
use Rattle.cell_words.specs.declared.fields.Field.TheVariants as field
use Rattle.cell_words.specs.declared.presences.Presence.{Presence}
use Rattle.cell_words.specs.declared.presences.Status.{Status}
use Rattle.cell_words.specs.declared.write_barrier.Barrier.{Barrier}
use Rattle.core_machine.specs.declared.events.Event.{Event}
use Rattle.core_machine.specs.declared.events.Event.TheVariants as event
use Rattle.core_machine.specs.declared.events.Found.{Found}
use Rattle.core_machine.specs.declared.events.Found.TheVariants as finds
use Rattle.core_machine.specs.declared.places.Held.{Held}
use Rattle.core_machine.specs.InRange.{InRange}
use Rattle.core_machine.specs.Own.{Own, having_read}
use Rattle.core_machine.specs.Places.{cell_at}
use Rattle.core_machine.specs.State.{greatest_cells}
use Rattle.core_machine.specs.WordOperations.{IsValidFound}
use Rattle.core_machine.specs.Words.{barrier_in, lets_store}
use Rattle.core_machine.proofs.HasWords.{found_valid}
use Rattle.heap_rule.specs.declared.known.Known.{Known}
use Rattle.heap_rule.specs.declared.known.Learned.{Learned}
use Rattle.heap_rule.specs.declared.view.View.{View}
use Rattle.heap_rule.specs.Asks.{IsBox, IsSealedValue, known_of, target}
use Rattle.heap_rule.specs.Boxes.{Map}
use Rattle.heap_rule.specs.Lore.{cells_in, known_at, known_read}
use Rattle.heap_rule.specs.Rule.{told}
use Rattle.heap_rule.specs.Steps.{same_pass}
use Rattle.heap_rule.proofs.Quiet.{cells_unmarked}
use Rattle.heap_rule.proofs.Reading.{cells_more}
use Rattle.mutator_events.specs.declared.values.Value.{Value}
use Rattle.mutator_events.specs.Events.{AtEvent}
use Rattle.mutator_events.specs.Values.{field_at, value_found}
use Rattle.mutator_events.proofs.Begun.{read_long}
use Rattle.mutator_events.proofs.HeldCells.{cells_kept_are, cells_many}
use Rattle.heap_table.specs.Seats.{HeapId, SeatView}
use Rattle.mutator_seat.specs.Bound.{Bound, IsBound, bound, held_cells, takes}
use Rattle.mutator_seat.specs.Stores.{Exchanged, Looks, MayOverwrite, Overwritten, Replaced}
use Rattle.mutator_seat.specs.Stores.{Rewritten, exchange_of, fetch_of, read_of, store_of}
use Rattle.mutator_seat.specs.Stores.{told_by}
use Rattle.mutator_seat.specs.Stretches.{Kept, SamePlaces}
use Rattle.mutator_seat.specs.Writes.{MayUpdate}
use Rattle.mutator_seat.proofs.Loads.{box_read, cell_more, field_more, field_seen, mode_more}
use Rattle.mutator_seat.proofs.Loads.{named_more, named_seen, value_sealed}
use Rattle.mutator_seat.proofs.Writes.{cell_same, field_same, many_same, named_same}

-- what an event found in a field has a word
pub seen_valid : {P : Type 0} {holds : Map → List P → Type 0} {fixed : ℕ → Bool}
    {next : Learned → Found → P → P} {v w : View P} (e : Event) (seen : Field)
    → AtEvent holds fixed v e next (finds.Field seen) w → IsValidField seen
seen_valid e seen at =
    let r : InRange at.core = record {
      shape = at.mine.shown.shaped;
      few_cells = subst (λ (n : ℕ). n ≤ greatest_cells) (sym at.mine.cells) at.mine.few;
    } in
    subst (λ (x : Found). IsValidFound x) at.found_is (found_valid at.core e r at.mine.shown.words)

-- What a write of the field needs stands after the load.

module _ {P : Type 0} (fixed : ℕ → Bool) (v : View P) (place f : ℕ) (new : Value) (seen : Field)
    (valid : IsValidField seen) (may : MayOverwrite fixed v place f new) (k : Learned) (p : P) where
  abbrev loaded : List Held
  loaded = (having_read v.own seen).held

  abbrev known_now : List Known
  known_now = known_read (cells_in v.own.held) v.known place k (finds.Field seen)

  there_now : place < length loaded
  there_now = let long = read_long v.own seen in omega (arith, may.there, long)

  box_now : IsBox (cell_at loaded place) (known_at known_now place)
  box_now = subst (λ (c : ℕ). IsBox c (known_at known_now place))
      (sym (cell_more v.own seen place may.there))
      (box_read (cells_in v.own.held) v.known place k seen (target v place) may.box)

  sealed_now : IsSealedValue (cells_in loaded) known_now (field_at loaded new)
  sealed_now = subst (λ (x : Field). IsSealedValue (cells_in loaded) known_now x)
      (sym (field_more v.own seen new may.new_named))
      (value_sealed v.own v.known place k seen (field_at v.own.held new) may.sealed)

  read_update : MayUpdate fixed (told v (event.Read v.number place f) (finds.Field seen) k p) place
      f (value_found (length v.own.held) seen) new
  read_update = record {
    inside = may.inside;
    there = there_now;
    payload = may.payload;
    box = box_now;
    old_named = named_seen v.own seen valid;
    new_named = named_more v.own seen new may.new_named;
    sealed = sealed_now;
    spares = λ is. cell_more v.own seen place may.there ∙ may.spares is;
  }

  fetch_update : MayUpdate fixed (told v (event.Fetch v.number place f) (finds.Field seen) k p)
      place f (value_found (length v.own.held) seen) new
  fetch_update = record {
    inside = may.inside;
    there = there_now;
    payload = may.payload;
    box = box_now;
    old_named = named_seen v.own seen valid;
    new_named = named_more v.own seen new may.new_named;
    sealed = sealed_now;
    spares = λ is. cell_more v.own seen place may.there ∙ may.spares is;
  }

-- What a load leaves, by what it gave.
pub record Loads {P : Type 0} (fixed : ℕ → Bool) (v w : View P) (place f : ℕ) (old new : Value)
    (seen : Field) : Type 0 where
  pub update : MayUpdate fixed w place f old new
  pub stands : field_at w.own.held old ≡ seen
  pub shape : w.shape ≡ v.shape
  pub number : w.number ≡ v.number
  pub presence : w.presence ≡ v.presence
  pub mode : w.own.mode ≡ v.own.mode
  pub cells : cells_in w.own.held ≡ cells_in (having_read v.own seen).held

module _ {P : Type 0} {holds : Map → List P → Type 0} {fixed : ℕ → Bool}
    {next : Learned → Found → P → P} {v w : View P} (place f : ℕ) (old new : Value) (seen : Field)
    (may : MayOverwrite fixed v place f new) (is : old ≡ value_found (length v.own.held) seen) where
  pub fetch_loads : AtEvent holds fixed v (event.Fetch v.number place f) next (finds.Field seen) w
      → Loads fixed v w place f old new seen
  fetch_loads at =
      let valid = seen_valid (event.Fetch v.number place f) seen at in record {
        update = subst (λ (x : Value). MayUpdate fixed w place f x new) (sym is)
            (subst (λ (u : View P). MayUpdate fixed u place f (value_found (length v.own.held) seen)
            new) (sym at.new) (fetch_update fixed v place f new seen valid may _ _));
        stands = ap (λ (u : View P). field_at u.own.held old) at.new
            ∙ ap (λ (x : Value). field_at (having_read v.own seen).held x) is
            ∙ field_seen v.own seen;
        shape = ap (λ (u : View P). u.shape) at.new;
        number = ap (λ (u : View P). u.number) at.new;
        presence = ap (λ (u : View P). u.presence) at.new;
        mode = ap (λ (u : View P). u.own.mode) at.new ∙ mode_more v.own seen;
        cells = ap (λ (u : View P). cells_in u.own.held) at.new;
      }

  pub read_loads : AtEvent holds fixed v (event.Read v.number place f) next (finds.Field seen) w
      → Loads fixed v w place f old new seen
  read_loads at =
      let valid = seen_valid (event.Read v.number place f) seen at in record {
        update = subst (λ (x : Value). MayUpdate fixed w place f x new) (sym is)
            (subst (λ (u : View P). MayUpdate fixed u place f (value_found (length v.own.held) seen)
            new) (sym at.new) (read_update fixed v place f new seen valid may _ _));
        stands = ap (λ (u : View P). field_at u.own.held old) at.new
            ∙ ap (λ (x : Value). field_at (having_read v.own seen).held x) is
            ∙ field_seen v.own seen;
        shape = ap (λ (u : View P). u.shape) at.new;
        number = ap (λ (u : View P). u.number) at.new;
        presence = ap (λ (u : View P). u.presence) at.new;
        mode = ap (λ (u : View P). u.own.mode) at.new ∙ mode_more v.own seen;
        cells = ap (λ (u : View P). cells_in u.own.held) at.new;
      }

-- the same barrier, by the same presence and mode
pub barrier_still : {P : Type 0} (v w : View P) {wanted : Barrier} → w.presence ≡ v.presence
    → w.own.mode ≡ v.own.mode → barrier_in v.presence.status v.own.mode ≡ wanted
    → barrier_in w.presence.status w.own.mode ≡ wanted
barrier_still v w presence mode is =
    ap (λ (p : Presence). barrier_in p.status w.own.mode) presence
    ∙ ap (λ (m : Option Control). barrier_in v.presence.status m) mode ∙ is

-- a load claims nothing
pub found_claims : (own : Own) (found : Field) → (having_read own found).claims ≡ own.claims
found_claims own field.Null = refl
found_claims own (field.Num n) = refl
found_claims own (field.Cell c) = refl

-- What is left after the write: the cells that were held, and then what was found.
pub record Leaves {P : Type 0} (old after : Bound P) (seen : Field) : Type 0 where
  pub heap : after.heap ≡ old.heap
  pub table : after.seat.table ≡ old.seat.table
  pub shape : after.seat.me.shape ≡ old.seat.me.shape
  pub role : after.seat.me.role ≡ old.seat.me.role
  pub number : after.seat.me.number ≡ old.seat.me.number
  pub room : after.seat.me.room ≡ old.seat.me.room
  pub claims : after.seat.me.own.claims ≡ old.seat.me.own.claims
  pub presence : after.seat.me.presence ≡ old.seat.me.presence
  pub settled : after.seat.me.own.pending ≡ None
  pub held : held_cells after ≡ cells_in (having_read old.seat.me.own seen).held

module _ {P : Type 0} {holds : Map → List P → Type 0} {fixed : ℕ → Bool} {wanted : Barrier}
    {next : Learned → Found → P → P} (place f : ℕ) (seen : Field) (new : Value)
    (old after : Bound P) where
  pub store_leaves : Replaced holds fixed wanted (fetch_of old place f) same_pass seen
      (store_of new) next finds.Stored new old after → Leaves old after seen
  store_leaves r =
      let load = r.load.event.new in
      let write = r.write.event.new in record {
        heap = r.write.heap ∙ r.marks.kept.heap ∙ r.load.heap;
        table = r.write.table ∙ r.marks.kept.table ∙ r.load.table;
        shape = ap (λ (u : View P). u.shape) write ∙ r.marks.kept.shape
            ∙ ap (λ (u : View P). u.shape) load;
        role = ap (λ (u : View P). u.role) write ∙ r.marks.kept.role
            ∙ ap (λ (u : View P). u.role) load;
        number = ap (λ (u : View P). u.number) write ∙ r.marks.kept.number
            ∙ ap (λ (u : View P). u.number) load;
        room = ap (λ (u : View P). u.room) write ∙ r.marks.kept.room
            ∙ ap (λ (u : View P). u.room) load;
        claims = ap (λ (u : View P). u.own.claims) write ∙ r.marks.kept.claims
            ∙ ap (λ (u : View P). u.own.claims) load ∙ found_claims old.seat.me.own seen;
        presence = ap (λ (u : View P). u.presence) write ∙ r.presence
            ∙ ap (λ (u : View P). u.presence) load;
        settled = ap (λ (u : View P). u.own.pending) write;
        held = ap (λ (u : View P). cells_in u.own.held) write
            ∙ cells_unmarked r.at.seat.me.own.held ∙ r.marks.kept.held
            ∙ ap (λ (u : View P). cells_in u.own.held) load;
      }

  pub exchange_leaves : {reads : Learned → Found → P → P} (found : Field)
      → Replaced holds fixed wanted (read_of old place f) reads seen (exchange_of place f seen new)
      next (finds.Field found) new old after → Leaves old after seen
  exchange_leaves found r =
      let load = r.load.event.new in
      let write = r.write.event.new in record {
        heap = r.write.heap ∙ r.marks.kept.heap ∙ r.load.heap;
        table = r.write.table ∙ r.marks.kept.table ∙ r.load.table;
        shape = ap (λ (u : View P). u.shape) write ∙ r.marks.kept.shape
            ∙ ap (λ (u : View P). u.shape) load;
        role = ap (λ (u : View P). u.role) write ∙ r.marks.kept.role
            ∙ ap (λ (u : View P). u.role) load;
        number = ap (λ (u : View P). u.number) write ∙ r.marks.kept.number
            ∙ ap (λ (u : View P). u.number) load;
        room = ap (λ (u : View P). u.room) write ∙ r.marks.kept.room
            ∙ ap (λ (u : View P). u.room) load;
        claims = ap (λ (u : View P). u.own.claims) write ∙ r.marks.kept.claims
            ∙ ap (λ (u : View P). u.own.claims) load ∙ found_claims old.seat.me.own seen;
        presence = ap (λ (u : View P). u.presence) write ∙ r.presence
            ∙ ap (λ (u : View P). u.presence) load;
        settled = ap (λ (u : View P). u.own.pending) write;
        held = ap (λ (u : View P). cells_in u.own.held) write
            ∙ cells_unmarked r.at.seat.me.own.held ∙ r.marks.kept.held
            ∙ ap (λ (u : View P). cells_in u.own.held) load;
      }

-- Keeping the places from before.

take_whole : (xs : List ℕ) → take (length xs) xs ≡ xs
take_whole [] = refl
take_whole (x ∷ xs) = ap (λ (ys : List ℕ). x ∷ ys) (take_whole xs)

take_front : (xs ys : List ℕ) → take (length xs) (xs ++ ys) ≡ xs
take_front [] ys = refl
take_front (x ∷ xs) ys = ap (λ (zs : List ℕ). x ∷ zs) (take_front xs ys)

front_more : (own : Own) (seen : Field)
    → take (length (cells_in own.held)) (cells_in (having_read own seen).held) ≡ cells_in own.held
front_more own field.Null = take_whole (cells_in own.held)
front_more own (field.Num n) = take_whole (cells_in own.held)
front_more own (field.Cell c) =
    ap (λ (cells : List ℕ). take (length (cells_in own.held)) cells) (cells_more own.held c)
    ∙ take_front (cells_in own.held) (c ∷ [])

module _ {P : Type 0} (old after : Bound P) (seen : Field) (left : Leaves old after seen) where
  -- there are as many at least
  pub many_left : length old.seat.me.own.held ≤ length after.seat.me.own.held
  many_left =
      let long = read_long old.seat.me.own seen in
      let now = cells_many after.seat.me.own.held in
      let then = cells_many (having_read old.seat.me.own seen).held in
      let same = ap (λ (cells : List ℕ). length cells) left.held in
      omega (arith, long, now, then, same)

  pub heap_left : (cut : Bound P) (n : ℕ)
      → cut ≡ takes after (event.Keep after.seat.me.number n 0 0)
      (finds.Presence after.seat.me.presence)
      → cut.heap ≡ old.heap
  heap_left cut n is = ap (λ (m : Bound P). m.heap) is ∙ left.heap

  pub table_left : (cut : Bound P) (n : ℕ)
      → cut ≡ takes after (event.Keep after.seat.me.number n 0 0)
      (finds.Presence after.seat.me.presence)
      → cut.seat.table ≡ old.seat.table
  table_left cut n is = ap (λ (m : Bound P). m.seat.table) is ∙ left.table

  pub held_left : (cut : Bound P)
      → cut ≡ takes after (event.Keep after.seat.me.number (length old.seat.me.own.held) 0 0)
      (finds.Presence after.seat.me.presence)
      → held_cells cut ≡ held_cells old
  held_left cut is =
      let n = length old.seat.me.own.held in
      ap (λ (m : Bound P). held_cells m) is
      ∙ cells_kept_are after.seat.me.own.held n 0 0
      ∙ append-nil (take n (held_cells after))
      ∙ ap (λ (cells : List ℕ). take n cells) left.held
      ∙ ap (λ (k : ℕ). take k (cells_in (having_read old.seat.me.own seen).held))
      (sym (cells_many old.seat.me.own.held))
      ∙ front_more old.seat.me.own seen

  -- the places are as they were before the load
  pub places_left : (cut : Bound P)
      → cut ≡ takes after (event.Keep after.seat.me.number (length old.seat.me.own.held) 0 0)
      (finds.Presence after.seat.me.presence)
      → SamePlaces old cut
  places_left cut is = record {
    heap = heap_left cut (length old.seat.me.own.held) is;
    table = table_left cut (length old.seat.me.own.held) is;
    shape = ap (λ (m : Bound P). m.seat.me.shape) is ∙ left.shape;
    role = ap (λ (m : Bound P). m.seat.me.role) is ∙ left.role;
    number = ap (λ (m : Bound P). m.seat.me.number) is ∙ left.number;
    room = ap (λ (m : Bound P). m.seat.me.room) is ∙ left.room;
    held = held_left cut is;
    claims = ap (λ (m : Bound P). m.seat.me.own.claims) is ∙ left.claims;
    inside = ap (λ (m : Bound P). m.seat.me.presence.inside) is
        ∙ ap (λ (p : Presence). p.inside) left.presence;
    over = ap (λ (m : Bound P). m.seat.me.presence.over) is
        ∙ ap (λ (p : Presence). p.over) left.presence;
  }

-- The pass that was picked at the load, and then at the write.
module _ {P : Type 0} {holds : Map → List P → Type 0} {fixed : ℕ → Bool} {wanted : Barrier}
    {loads : Event} {reads next : Learned → Found → P → P} {writes : Bound P → Event}
    {found : Found} (seen : Field) (new : Value) (old after : Bound P) where
  pub pass_left : (r : Replaced holds fixed wanted loads reads seen writes next found new old after)
      (cut : Bound P) (n : ℕ)
      → cut ≡ takes after (event.Keep after.seat.me.number n 0 0)
      (finds.Presence after.seat.me.presence)
      → cut.seat.me.pass
      ≡ next (told_by r.write) found (reads (told_by r.load) (finds.Field seen) old.seat.me.pass)
  pass_left r cut n is =
      ap (λ (m : Bound P). m.seat.me.pass) is
      ∙ ap (λ (u : View P). u.pass) r.write.event.new
      ∙ ap (next (told_by r.write) found)
      (r.marks.kept.pass ∙ ap (λ (u : View P). u.pass) r.load.event.new)

-- after a stretch that kept them
pub places_then : {P : Type 0} {a b c : Bound P} → Kept a b → SamePlaces b c → SamePlaces a c
places_then kept same = record {
  heap = same.heap ∙ kept.heap;
  table = same.table ∙ kept.table;
  shape = same.shape ∙ kept.shape;
  role = same.role ∙ kept.role;
  number = same.number ∙ kept.number;
  room = same.room ∙ kept.room;
  held = same.held ∙ kept.held;
  claims = same.claims ∙ kept.claims;
  inside = same.inside ∙ kept.inside;
  over = same.over ∙ kept.over;
}

-- what it needs stands after the look
pub may_still : {P : Type 0} (fixed : ℕ → Bool) (m at : Bound P) (place f : ℕ) (new : Value)
    → Kept m at → MayOverwrite fixed m.seat.me place f new
    → MayOverwrite fixed at.seat.me place f new
may_still {P} fixed m at place f new kept may =
    let was = m.seat.me.own.held in
    let now = at.seat.me.own.held in
    let cell = cell_same now was kept.held place in
    let many = many_same now was kept.held in record {
      inside = kept.inside ∙ may.inside;
      there = subst (λ (n : ℕ). place < n) (sym many) may.there;
      payload = may.payload;
      box = subst (λ (k : Known). IsBox (cell_at now place) k)
          (ap (λ (ks : List Known). known_at ks place) (sym kept.known))
          (subst (λ (c : ℕ). IsBox c (known_of m.seat.me place)) (sym cell) may.box);
      new_named = named_same was now (sym kept.held) new may.new_named;
      sealed = subst (λ (x : Field). IsSealedValue (cells_in now) at.seat.me.known x)
          (sym (field_same now was kept.held new))
          (subst (λ (ks : List Known). IsSealedValue (cells_in now) ks (field_at was new))
          (sym kept.known)
          (subst (λ (cs : List ℕ). IsSealedValue cs m.seat.me.known (field_at was new))
          (sym kept.held) may.sealed));
      spares = λ is. cell ∙ may.spares is;
      room = omega (arith, many, kept.room, may.room);
    }

-- it is bound to its heap after the write as before
pub bound_left : {P : Type 0} (heap : HeapId) (seat : SeatView P) (after : Bound P) (seen : Field)
    → IsBound heap seat → Leaves (bound heap seat) after seen → IsBound heap after.seat
bound_left heap seat after seen was left = record {
  seat_is = (left.table ∙ was.seat_is.0, left.shape ∙ was.seat_is.1);
  settled = left.settled;
  not_over = ap (λ (p : Presence). p.over) left.presence ∙ was.not_over;
}

-- whichever of the two it is
pub either_of : {T E L A : Type 0} {B : E → Type 0} (r : Result T E) → OnOk r A → IfErr r B
    → (A → L) → ((e : E) → B e → L) → L
either_of (Ok x) a b f g = f a
either_of (Err e) a b f g = g e b

-- What a look found, after it.

module _ {P : Type 0} (m looked : Bound P) (control : Control) (own : Status)
    (told : looked ≡ takes m (event.Look m.seat.me.number) (finds.Control control))
    (is : own ≡ looked.seat.me.presence.status) where
  pub own_is : own ≡ m.seat.me.presence.status
  own_is = is ∙ ap (λ (b : Bound P). b.seat.me.presence.status) told

  pub lets_looked : (lets : Bool) → lets ≡ lets_store own (Some control)
      → lets_store m.seat.me.presence.status (Some control) ≡ lets
  lets_looked lets same =
      ap (λ (s : Status). lets_store s (Some control)) (sym own_is) ∙ sym same

  pub lets_there : lets_store looked.seat.me.presence.status looked.seat.me.own.mode
      ≡ lets_store m.seat.me.presence.status (Some control)
  lets_there =
      ap (λ (b : Bound P). lets_store b.seat.me.presence.status b.seat.me.own.mode) told

  pub wanted_looked : (wanted : Barrier) → wanted ≡ barrier_of own control
      → wanted ≡ barrier_of m.seat.me.presence.status control
  wanted_looked wanted same = same ∙ ap (λ (s : Status). barrier_of s control) own_is

  pub wanted_there : (wanted : Barrier) → wanted ≡ barrier_of own control
      → barrier_in looked.seat.me.presence.status looked.seat.me.own.mode ≡ wanted
  wanted_there wanted same =
      ap (λ (b : Bound P). barrier_in b.seat.me.presence.status b.seat.me.own.mode) told
      ∙ sym (wanted_looked wanted same)

  pub mode_there : is_some looked.seat.me.own.mode ≡ true
  mode_there = ap (λ (b : Bound P). is_some b.seat.me.own.mode) told

  pub presence_there : looked.seat.me.presence ≡ m.seat.me.presence
  presence_there = ap (λ (b : Bound P). b.seat.me.presence) told

-- What is left after the look and all that came after it. The barrier is given by what it is.
module _ {P : Type 0} {holds : Map → List P → Type 0} {fixed : ℕ → Bool}
    {next : Learned → Found → P → P} (m looked after : Bound P) (control : Control) (place f : ℕ)
    (new : Value) (wanted : Barrier) (is : wanted ≡ barrier_of m.seat.me.presence.status control)
    (look : Looks control m looked) (presence : looked.seat.me.presence ≡ m.seat.me.presence)
  where
    pub overwritten : (seen : Field)
        → lets_store m.seat.me.presence.status (Some control) ≡ true
        → Rewritten holds fixed wanted (fetch_of looked place f) same_pass seen (store_of new)
        next finds.Stored new looked after
        → Overwritten holds fixed next m place f new after
    overwritten seen lets one =
        let both = subst (λ (b : Barrier). (r : Rewritten holds fixed b (fetch_of looked place f)
        same_pass seen (store_of new) next finds.Stored new looked after)
        × (after.seat.me.pass ≡ next (told_by r.replaced.write) finds.Stored m.seat.me.pass)) is (
          one,
          one.pass ∙ ap (next (told_by one.replaced.write) finds.Stored) look.kept.pass,
        ) in
        record {
          control = control;
          lets = lets;
          looked = looked;
          look = look;
          presence = presence;
          seen = seen;
          rewritten = both.0;
          heap = one.heap ∙ look.kept.heap;
          table = one.table ∙ look.kept.table;
          held = one.held ∙ look.kept.held;
          places = places_then look.kept one.places;
          pass = both.1;
        }

    pub exchanged : {reads : Learned → Found → P → P} (seen found : Field)
        → lets_store m.seat.me.presence.status (Some control) ≡ false
        → Rewritten holds fixed wanted (read_of looked place f) reads seen
        (exchange_of place f seen new) next (finds.Field found) new looked after
        → Exchanged holds fixed reads next m place f new seen found after
    exchanged {reads} seen found lets one =
        let both = subst (λ (b : Barrier). (r : Rewritten holds fixed b (read_of looked place f)
        reads seen (exchange_of place f seen new) next (finds.Field found) new looked after)
        × (after.seat.me.pass ≡ next (told_by r.replaced.write) (finds.Field found)
        (reads (told_by r.replaced.load) (finds.Field seen) m.seat.me.pass))) is (
          one,
          one.pass ∙ ap (λ (p : P). next (told_by one.replaced.write) (finds.Field found)
              (reads (told_by one.replaced.load) (finds.Field seen) p)) look.kept.pass,
        ) in
        record {
          control = control;
          lets = lets;
          looked = looked;
          look = look;
          presence = presence;
          rewritten = both.0;
          heap = one.heap ∙ look.kept.heap;
          table = one.table ∙ look.kept.table;
          held = one.held ∙ look.kept.held;
          places = places_then look.kept one.places;
          pass = both.1;
        }
