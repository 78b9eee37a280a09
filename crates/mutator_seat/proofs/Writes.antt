-- What a write needs stands after its look and its marks: no cell moved, and the marks are there.
use Rattle.std.proofs.Common.{◌≡◌, ◌<◌, ◌==◌, ◌&&◌, ℕ, Bool, true, false, List, []}
use Rattle.std.proofs.Common.{◌∷◌, length, map, get_or, refl, sym, ◌∙◌, ap, subst}
use Rattle.std.proofs.Common.{⊎_elim, if◌then◌else◌, is_some, Option, None, Some}
use Rattle.std.proofs.lemmas.Bool.{and_parts, eq-eqb, or_cases}
use Rattle.std.proofs.lemmas.List.{length-map, get_or-map}
use Rattle.std.proofs.lemmas.List.Folds.{list_any_at}
use Rattle.cell_words.specs.declared.fields.Field.{Field}
use Rattle.cell_words.specs.declared.fields.Field.TheVariants as field
use Rattle.core_machine.specs.declared.pending.Pending.{Pending}
use Rattle.core_machine.specs.declared.places.Held.{Held}
use Rattle.core_machine.specs.Own.{pending_or_none}
use Rattle.core_machine.specs.Places.{cell_at, holds_marked, is_marked_place_of}
use Rattle.core_machine.specs.Places.{is_marked_value, is_place_of, mark_of, marks_stand}
use Rattle.core_machine.specs.Places.{names_rightly, no_place}
use Rattle.core_machine.specs.Words.{barrier_in}
use Rattle.dlg_core.proofs.Truths.{or_here, or_later}
use Rattle.heap_rule.specs.declared.known.Known.{Known}
use Rattle.heap_rule.specs.Asks.{IsBox, IsSealedValue, MayStore, MayWrite, begun_of, known_of}
use Rattle.heap_rule.specs.Lore.{cells_in, known_at}
use Rattle.heap_rule.proofs.Reading.{cell_there}
use Rattle.mutator_events.specs.declared.values.Value.{Value}
use Rattle.mutator_events.specs.declared.values.Value.TheVariants as values
use Rattle.mutator_events.specs.Values.{field_at}
use Rattle.mutator_seat.specs.Bound.{Bound}
use Rattle.mutator_seat.specs.Stretches.{Kept}
use Rattle.mutator_seat.specs.Writes.{IsNamed, MayUpdate}

-- Values, by lists with the same cells.

module _ (a b : List Held) (same : cells_in a ≡ cells_in b) where
  pub cell_same : (place : ℕ) → cell_at a place ≡ cell_at b place
  cell_same place =
      sym (cell_there a place) ∙ ap (λ (cs : List ℕ). get_or cs place 0) same ∙ cell_there b place

  pub field_same : (v : Value) → field_at a v ≡ field_at b v
  field_same values.Null = refl
  field_same (values.Num n) = refl
  field_same (values.Held place) = ap (λ (c : ℕ). field.Cell c) (cell_same place)

  pub many_same : length a ≡ length b
  many_same =
      sym (length-map a (λ (p : Held). p.cell)) ∙ ap (λ (cs : List ℕ). length cs) same
      ∙ length-map b (λ (p : Held). p.cell)

  pub named_same : (v : Value) → IsNamed a v → IsNamed b v
  named_same values.Null named = named
  named_same (values.Num n) named = named
  named_same (values.Held place) named = subst (λ (n : ℕ). place < n) many_same named

pub rightly : (held : List Held) (v : Value) → IsNamed held v
    → names_rightly held (field_at held v) ≡ true
rightly held values.Null named = refl
rightly held (values.Num n) named = named
rightly held (values.Held place) named =
    list_any_at (is_place_of (cell_at held place)) held place no_place named
    (eq-eqb (cell_at held place) (cell_at held place) refl)

-- Marks.

marked_at : (b : Bool) (c : ℕ) (p : Held) → ((p.cell == c) && p.marked) ≡ true
    → is_marked_place_of c (if b then record p { marked = true } else p) ≡ true
marked_at true c p h = both (p.cell == c) (and_parts (p.cell == c) p.marked h).0
  where
    both : (x : Bool) → x ≡ true → (x && true) ≡ true
    both x is = ap (λ (y : Bool). y && true) is
marked_at false c p h = h

-- a place that is marked stays so
pub still_marked : (d c : ℕ) (held : List Held) → holds_marked held c ≡ true
    → holds_marked (map (mark_of d) held) c ≡ true
still_marked d c [] h = h
still_marked d c (p ∷ ps) h =
    ⊎_elim
    (λ here. or_here _ (holds_marked (map (mark_of d) ps) c) (marked_at (p.cell == d) c p here))
    (λ later. or_later (is_marked_place_of c (mark_of d p)) _ (still_marked d c ps later))
    (or_cases (is_marked_place_of c p) (holds_marked ps c) h)

pub value_still : (d : ℕ) (held : List Held) (v : Field) → is_marked_value held v ≡ true
    → is_marked_value (map (mark_of d) held) v ≡ true
value_still d held field.Null h = refl
value_still d held (field.Num n) h = refl
value_still d held (field.Cell c) h = still_marked d c held h

marked_now : (b : Bool) (p : Held) → b ≡ true
    → (if b then record p { marked = true } else p).marked ≡ true
marked_now b p is =
    subst (λ (c : Bool). (if c then record p { marked = true } else p).marked ≡ true) (sym is) refl

-- the cell at a place is marked after its mark
pub value_marked : (held : List Held) (place : ℕ) → place < length held
    → is_marked_value (map (mark_of (cell_at held place)) held)
    (field_at (map (mark_of (cell_at held place)) held) (values.Held place)) ≡ true
value_marked held place there =
    let c = cell_at held place in
    let marked = map (mark_of c) held in
    let at = get_or-map (mark_of c) held place no_place no_place there in
    let within : place < length marked
    = subst (λ (n : ℕ). place < n) (sym (length-map held (mark_of c))) there in
    list_any_at (is_marked_place_of (cell_at marked place)) marked place no_place within
    (ap (λ (b : Bool). b && (get_or marked place no_place).marked)
    (eq-eqb (cell_at marked place) (cell_at marked place) refl)
    ∙ ap (λ (p : Held). p.marked) at
    ∙ marked_now (cell_at held place == c) (get_or held place no_place) (eq-eqb c c refl))

-- All of it.

module _ {P : Type 0} (fixed : ℕ → Bool) (m at : Bound P) (place f : ℕ) (old new : Value)
    (may : MayUpdate fixed m.seat.me place f old new) (kept : Kept m at) where
  abbrev was : List Held
  was = m.seat.me.own.held

  abbrev now : List Held
  now = at.seat.me.own.held

  cell : (p : ℕ) → cell_at now p ≡ cell_at was p
  cell p = cell_same now was kept.held p

  pub sealed_still : IsSealedValue (cells_in now) at.seat.me.known (field_at now new)
  sealed_still = subst (λ (x : Field). IsSealedValue (cells_in now) at.seat.me.known x)
      (sym (field_same now was kept.held new))
      (subst (λ (ks : List Known). IsSealedValue (cells_in now) ks (field_at was new))
      (sym kept.known)
      (subst (λ (cs : List ℕ). IsSealedValue cs m.seat.me.known (field_at was new))
      (sym kept.held) may.sealed))

  pub spares_still : fixed f ≡ true → cell_at now place ≡ 0
  spares_still is = cell place ∙ may.spares is

  pub may_write : at.seat.me.own.pending ≡ None → is_some at.seat.me.own.mode ≡ true
      → marks_stand (barrier_in at.seat.me.presence.status at.seat.me.own.mode)
      at.seat.me.own.held (field_at at.seat.me.own.held old) (field_at at.seat.me.own.held new)
      ≡ true
      → MayWrite fixed at.seat.me place f (field_at at.seat.me.own.held old)
      (field_at at.seat.me.own.held new)
  may_write settled mode marks = record {
    inside = kept.inside ∙ may.inside;
    settled = settled;
    mode = mode;
    there = subst (λ (n : ℕ). place < n) (sym (many_same now was kept.held)) may.there;
    payload = may.payload;
    box = subst (λ (k : Known). IsBox (cell_at now place) k)
        (ap (λ (ks : List Known). known_at ks place) (sym kept.known))
        (subst (λ (c : ℕ). IsBox c (known_of m.seat.me place)) (sym (cell place)) may.box);
    names_old = rightly now old (named_same was now (sym kept.held) old may.old_named);
    names_new = rightly now new (named_same was now (sym kept.held) new may.new_named);
    sealed = sealed_still;
    marks = marks;
    spares = spares_still;
  }

  -- the same of a store whose fetch found what the old value stands for
  pub may_store : (seen : Field)
      → m.seat.me.own.pending ≡ Some (record { place = place; f = f; found = seen })
      → field_at now old ≡ seen
      → marks_stand (barrier_in at.seat.me.presence.status at.seat.me.own.mode)
      at.seat.me.own.held (field_at at.seat.me.own.held old) (field_at at.seat.me.own.held new)
      ≡ true
      → MayStore fixed at.seat.me (field_at at.seat.me.own.held new)
  may_store seen begun is marks =
      let pending : at.seat.me.own.pending
      ≡ Some (record { place = place; f = f; found = seen }) = kept.pending ∙ begun in
      let write : begun_of at.seat.me ≡ record { place = place; f = f; found = seen } =
      ap (λ (p : Option Pending). pending_or_none p) pending in
      record {
        inside = kept.inside ∙ may.inside;
        begun = ap (λ (p : Option Pending). is_some p) pending;
        names = rightly now new (named_same was now (sym kept.held) new may.new_named);
        sealed = sealed_still;
        marks = subst (λ (x : Field). marks_stand
            (barrier_in at.seat.me.presence.status at.seat.me.own.mode) now x (field_at now new)
            ≡ true) (is ∙ sym (ap (λ (p : Pending). p.found) write)) marks;
        spares = subst (λ (p : Pending). fixed p.f ≡ true → cell_at now p.place ≡ 0) (sym write)
            spares_still;
      }
