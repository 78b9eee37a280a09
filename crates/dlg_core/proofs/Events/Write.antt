-- Write, Store and Fill: a payload field of a held cell gets another value.
--
-- Write  while the collector traces, an async mutator has marked the old value and holds the new
--        one; one in sync2 has marked both. So the edge that goes ends in no white cell, and the
--        new value was due before or is not white.
-- Store  where the field has another value than the one that was read, it was doubtful before, so
--        the edge that goes is none that counted. Else the old value is marked, as for a write, and
--        so is the new one. The pending write goes once the new value stands, so what that names
--        was due, if only by this doubt.
-- Fill   no edge goes, since the field held no cell. To an async mutator the value was due before,
--        as it holds it. One in sync2 fills a cell that is neither black nor under scan, so nothing
--        is due.
use Rattle.std.proofs.Common.{◌≡◌, ◌≢◌, ◌==◌, ◌&&◌, ◌⊎◌, if◌then◌else◌, inl, inr, ℕ, Bool, true}
use Rattle.std.proofs.Common.{false, List, [], ◌∷◌, Option, Some, None, is_some, ◌<◌, refl, sym}
use Rattle.std.proofs.Common.{subst, ◌∙◌, ap, arith}
use Rattle.std.specs.List.{All}
use Rattle.std.proofs.lemmas.Bool.{and_parts, or_cases, eqb-true}
use Rattle.std.proofs.lemmas.List.Elements.{All-head, All-tail}
use Rattle.cell_words.specs.declared.colours.Colour.{Colour}
use Rattle.cell_words.specs.declared.colours.Colour.TheVariants as colour
use Rattle.cell_words.specs.declared.controls.Control.{Control}
use Rattle.cell_words.specs.declared.controls.Stage.TheVariants as stage
use Rattle.cell_words.specs.declared.fields.Field.{Field}
use Rattle.cell_words.specs.declared.fields.Field.TheVariants as field
use Rattle.cell_words.specs.declared.presences.Status.{Status}
use Rattle.cell_words.specs.declared.presences.Status.TheVariants as status
use Rattle.cell_words.specs.Modes.{async_barrier_of, requested_of}
use Rattle.core_machine.specs.declared.events.Event.TheVariants as event
use Rattle.core_machine.specs.declared.places.Held.{Held}
use Rattle.core_machine.specs.Operations.{is_in}
use Rattle.core_machine.specs.State.{State, colour_in, colour_of, field_of, presence_of, own_of}
use Rattle.core_machine.specs.State.{held_of, target_of, begun_of, is_raw, is_raw_value}
use Rattle.core_machine.specs.Words.{written, same_field, barrier_in, is_raw_kind, is_handshake}
use Rattle.core_machine.specs.Words.{is_cell, lets_store}
use Rattle.core_machine.specs.InRange.{IsShaped}
use Rattle.core_machine.specs.Next.{can, after}
use Rattle.core_machine.specs.Own.{spent}
use Rattle.core_machine.specs.Places.{holds_marked, is_marked_value, marks_stand, names_rightly}
use Rattle.core_machine.specs.Conditions.{CanWrite, CanStore}
use Rattle.core_machine.proofs.Conditions.{write_needs, store_needs, fill_needs}
use Rattle.dlg_core.specs.Consistent.{IsConsistent, IsNotDue, MarkStands}
use Rattle.dlg_core.specs.Facts.{live, status_fits, async_fits, marks_count, IsStaleMode}
use Rattle.dlg_core.proofs.Changes.Field.{FieldFits, field_kept, with_field}
use Rattle.dlg_core.proofs.Changes.Own.{own_kept, spent_fits}
use Rattle.dlg_core.proofs.Each.{all_held}
use Rattle.core_machine.proofs.OneOperation.{inside_there}
use Rattle.dlg_core.proofs.HeldLists.{at_place}
use Rattle.dlg_core.proofs.Doubtful.{doubtful_box}
use Rattle.dlg_core.proofs.Truths.{one_of_all, async_mode, begun_is, box_not_raw}
use Rattle.dlg_core.proofs.CutOff.{not_white_outside}

-- Statuses while the collector traces.

pub traced_status : (own : Status) → status_fits stage.Trace own ≡ true
    → (own ≡ status.Async) ⊎ (own ≡ status.Sync2)
traced_status status.Async h = inl refl
traced_status status.Sync1 h = absurd cc
traced_status status.Sync2 h = inr refl

pub status_in_trace : (s : State) (i : ℕ) → IsShaped s → IsConsistent s → is_in s i ≡ true
    → s.control.stage ≡ stage.Trace
    → ((presence_of s i).status ≡ status.Async) ⊎ ((presence_of s i).status ≡ status.Sync2)
status_in_trace s i range k inside now =
    traced_status (presence_of s i).status
    (subst (λ x. status_fits x (presence_of s i).status ≡ true) now
    (k.mutators.statuses i (inside_there s range i inside)))

-- Marks.

pub marked_stands : (colours : List Colour) (held : List Held) (c : ℕ)
    → All (MarkStands colours) held
    → holds_marked held c ≡ true → colour_in colours c ≢ colour.White
marked_stands colours [] c all h = absurd cc
marked_stands colours
    (p ∷ ps) c all h = elim (or_cases ((p.cell == c) && p.marked) (holds_marked ps c) h) [
      | inl here ↦ λ white. let r = and_parts _ _ here in
          All-head (MarkStands colours) p ps all r.1
          (subst (λ d. colour_in colours d ≡ colour.White) (sym (eqb-true p.cell c r.0)) white)
      | inr there ↦ marked_stands colours ps c (All-tail (MarkStands colours) p ps all) there
    ]

-- while the collector traces, a marked value is not white
pub value_not_white : (s : State) (i w : ℕ) → IsConsistent s → s.control.stage ≡ stage.Trace
    → is_marked_value (held_of s i) (field.Cell w) ≡ true → colour_of s w ≢ colour.White
value_not_white s i w k now h =
    marked_stands s.colours (held_of s i) w
    (k.mutators.marks i (subst (λ x. marks_count x (presence_of s i).status ≡ true) (sym now) refl))
    h

-- the marks that a write found: the old value's, and in sync2 the new value's too
pub record WriteMarks (own : Status) (held : List Held) (old new : Field) : Type 0 where
  pub old_marked : is_marked_value held old ≡ true
  pub new_marked : own ≡ status.Sync2 → is_marked_value held new ≡ true

pub marks_found : (own : Status) (mode : Option Control) (now : Control) (held : List Held)
    (old new : Field)
    → now.stage ≡ stage.Trace → (own ≡ status.Async) ⊎ (own ≡ status.Sync2) → is_some mode ≡ true
    → IsStaleMode own mode now → marks_stand (barrier_in own mode) held old new ≡ true
    → WriteMarks own held old new
marks_found own None now held old new trace fits has stale h = absurd cc
marks_found status.Async (Some m) now held old new trace fits has stale h =
    let same : m.stage
    ≡ stage.Trace = async_mode m.stage
    (subst (λ x. async_fits m.stage x ≡ true) trace stale.fits) in
    record {
      old_marked = subst (λ x. marks_stand (async_barrier_of x) held old new ≡ true) same h;
      new_marked = (λ e. absurd cc);
    }
marks_found status.Sync1 (Some m) now held old new trace fits has stale h =
    elim fits [ inl e ↦ absurd cc | inr e ↦ absurd cc ]
marks_found status.Sync2 (Some m) now held old new trace fits has stale h =
    let r = and_parts _ _ h in
    record { old_marked = r.0; new_marked = (λ e. r.1) }

-- Write.

pub same_field_is : (x y : Field) → same_field x y ≡ true → x ≡ y
same_field_is field.Null field.Null h = refl
same_field_is (field.Num n) (field.Num m) h = ap (λ i. field.Num i) (eqb-true n m h)
same_field_is (field.Cell c) (field.Cell d) h = ap (λ i. field.Cell i) (eqb-true c d h)
same_field_is _ _ h = absurd cc

-- what a mutator names rightly and is not raw is live and sealed
pub named_live : (s : State) (i w : ℕ) (x : Field) → IsConsistent s
    → names_rightly (held_of s i) x ≡ true
    → is_raw_value s x ≡ false → x ≡ field.Cell w
    → (live s.colours s.control s.collector.sweep w ≡ true) × (is_raw_kind (field_of s w 5) ≡ false)
named_live s i w (field.Cell c) k rightly whole e =
    let same : c ≡ w = cc in (
      subst (λ d. live s.colours s.control s.collector.sweep d ≡ true) same
          (all_held (λ d. live s.colours s.control s.collector.sweep d ≡ true) (held_of s i) c
          (k.cells.held_live i) rightly),
      subst (λ d. is_raw_kind (field_of s d 5) ≡ false) same whole,
    )
named_live s i w _ k rightly whole e = absurd cc

-- a held value is in no set from which an async mutator's cells are left out
pub held_outside : (s : State) (i w : ℕ) (set : ℕ → Bool) (x : Field)
    → IsNotDue s.presences s.owns s.colours s.rows s.collector.scan set
    → (presence_of s i).status ≡ status.Async
    → names_rightly (held_of s i) x ≡ true → x ≡ field.Cell w → set w ≡ false
held_outside s i w set x old async rightly e =
    all_held (λ c. set c ≡ false) (held_of s i) w (old.held i async)
    (subst (λ y. names_rightly (held_of s i) y ≡ true) e rightly)

-- the value that stands there already
pub same_field_fits : (s : State) (b f : ℕ) → IsConsistent s → f < 5
    → live s.colours s.control s.collector.sweep b ≡ true → FieldFits s b f (field_of s b f)
same_field_fits s b f k payload alive = record {
  payload = payload;
  alive = alive;
  names = (λ w e. k.cells.names_live b w f alive e);
  gone = (λ now w e sure. inl e);
  due = (λ now set cut old w e why. elim why [
    | inl black ↦ old.black b w f black e
    | inr other ↦ elim other [
      | inl scan ↦ old.scanned scan.0 w f scan.1 scan.3
          (subst (λ c. field_of s c f ≡ field.Cell w) scan.2 e)
      | inr doubt ↦ old.doubtful b w f doubt e
    ]
  ]);
}

-- the value that a write leaves
pub written_fits : (s : State) (i place f : ℕ) (old new : Field) → IsShaped s → IsConsistent s
    → CanWrite s i place f old new
    → FieldFits s (target_of s i place) f (written (field_of s (target_of s i place) f) old new)
written_fits s i place f old new range k needs =
    let b = target_of s i place in
    let found = field_of s b f in
    let alive : live s.colours s.control s.collector.sweep b ≡ true
    = at_place (λ d. live s.colours s.control s.collector.sweep d ≡ true)
    (held_of s i) place needs.there (k.cells.held_live i) in
    let marks : s.control.stage ≡ stage.Trace
    → WriteMarks (presence_of s i).status (held_of s i) old new
    = (λ now. marks_found (presence_of s i).status (own_of s i).mode s.control
    (held_of s i) old new now
    (status_in_trace s i range k needs.inside now) needs.mode (k.mutators.modes i) needs.marks) in
    elim (same_field found old)
    as (λ same. same_field found old ≡ same → FieldFits s b f (if same then new else found)) [
      | false ↦ λ e. same_field_fits s b f k (omega (arith, needs.payload)) alive
      | true ↦ λ e.
          let was : found ≡ old = same_field_is found old e in
          record {
            payload = omega (arith, needs.payload);
            alive = alive;
            names = (λ w is. named_live s i w new k needs.names_new needs.sealed is);
            gone = (λ now w is sure. inr (value_not_white s i w k now
                (subst (λ y. is_marked_value (held_of s i) y ≡ true) (sym was ∙ is)
                (marks now).old_marked)));
            due = (λ now set cut old_due w is why.
                elim (status_in_trace s i range k needs.inside now) [
                  | inl async ↦ held_outside s i w set new old_due async needs.names_new is
                  | inr sync2 ↦ not_white_outside s set w cut (value_not_white s i w k now
                      (subst (λ y. is_marked_value (held_of s i) y ≡ true) is
                      ((marks now).new_marked sync2)))
                ]);
          }
    ] refl

pub write_keeps : (s : State) (i place f : ℕ) (old new : Field) → IsShaped s → IsConsistent s
    → can s (event.Write i place f old new) ≡ true
    → IsConsistent (after s (event.Write i place f old new))
write_keeps s i place f old new range k h =
    let needs = write_needs s i place f old new h in
    let b = target_of s i place in
    let x = written (field_of s b f) old new in
    let wrote = field_kept s b f x range k (written_fits s i place f old new range k needs) in
    own_kept (with_field s b f x) i (spent (own_of s i)) wrote
    (spent_fits (with_field s b f x) i wrote needs.inside)

-- Store.

-- a mode that lets a store is there
pub store_mode : (own : Status) (mode : Option Control) → lets_store own mode ≡ true
    → is_some mode ≡ true
store_mode own None h = absurd cc
store_mode own (Some m) h = refl

-- the value that a store leaves, while its write is still pending
pub stored_fits : (s : State) (i : ℕ) (new : Field) → IsShaped s → IsConsistent s
    → CanStore s i new
    → FieldFits s (target_of s i (begun_of s i).place) (begun_of s i).f new
stored_fits s i new range k needs =
    let write = begun_of s i in
    let begun = begun_is (own_of s i).pending needs.begun in
    let pends = k.cells.pendings i write begun in
    let marks : s.control.stage ≡ stage.Trace
    → WriteMarks (presence_of s i).status (held_of s i) write.found new
    = (λ now. marks_found (presence_of s i).status (own_of s i).mode s.control
    (held_of s i) write.found new now
    (status_in_trace s i range k needs.inside now)
    (store_mode (presence_of s i).status (own_of s i).mode pends.lets) (k.mutators.modes i)
    needs.marks) in
    record {
      payload = pends.payload;
      alive = at_place (λ d. live s.colours s.control s.collector.sweep d ≡ true)
          (held_of s i) write.place pends.there (k.cells.held_live i);
      names = (λ w is. named_live s i w new k needs.names needs.sealed is);
      gone = (λ now w is sure. inr (λ white. sure record {
        mutator = i;
        doubt = record {
          write = write;
          begun = begun;
          cell = refl;
          same = refl;
          changed = (λ found. value_not_white s i w k now
              (subst (λ y. is_marked_value (held_of s i) y ≡ true) found (marks now).old_marked)
              white);
        };
      }));
      due = (λ now set cut old_due w is why. elim (status_in_trace s i range k needs.inside now) [
        | inl async ↦ held_outside s i w set new old_due async needs.names is
        | inr sync2 ↦ not_white_outside s set w cut (value_not_white s i w k now
            (subst (λ y. is_marked_value (held_of s i) y ≡ true) is
            ((marks now).new_marked sync2)))
      ]);
    }

pub store_keeps : (s : State) (i : ℕ) (new : Field) → IsShaped s → IsConsistent s
    → can s (event.Store i new) ≡ true → IsConsistent (after s (event.Store i new))
store_keeps s i new range k h =
    let needs = store_needs s i new h in
    let write = begun_of s i in
    let t = with_field s (target_of s i write.place) write.f new in
    let stored = field_kept s (target_of s i write.place) write.f new range k
    (stored_fits s i new range k needs) in
    own_kept t i (spent (own_of s i)) stored (spent_fits t i stored needs.inside)

-- Fill.

-- what is no cell names none
pub no_cell_named : (x : Field) (w : ℕ) → is_cell x ≡ false → x ≢ field.Cell w
no_cell_named field.Null w h e = absurd cc
no_cell_named (field.Num n) w h e = absurd cc
no_cell_named (field.Cell c) w h e = absurd cc

pub fill_keeps : (s : State) (i place f : ℕ) (value : Field) → IsShaped s → IsConsistent s
    → can s (event.Fill i place f value) ≡ true
    → IsConsistent (after s (event.Fill i place f value))
fill_keeps s i place f value range k h =
    let needs = fill_needs s i place f value h in
    let b = target_of s i place in
    let alive : live s.colours s.control s.collector.sweep b ≡ true
    = at_place (λ d. live s.colours s.control s.collector.sweep d ≡ true)
    (held_of s i) place needs.there (k.cells.held_live i) in
    field_kept s b f value range k record {
      payload = omega (arith, needs.payload);
      alive = alive;
      names = (λ w is. named_live s i w value k needs.names needs.sealed is);
      gone = (λ now w is sure. absurd (no_cell_named (field_of s b f) w needs.clear is));
      due = (λ now set cut old w is why. elim (status_in_trace s i range k needs.inside now) [
        | inl async ↦ held_outside s i w set value old async needs.names is
        | inr sync2 ↦ absurd (elim why [
          | inl black ↦ at_place (λ d. is_raw s d ≡ true → colour_of s d ≢ colour.Black)
              (held_of s i) place needs.there
              (k.cells.raw_not_black i sync2) needs.raw black
          | inr other ↦ elim other [
            | inl scan ↦
                let answers = (k.tracing.scans scan.0 scan.1).answers in
                let async : (presence_of s i).status ≡ status.Async
                = k.mutators.answered i (inside_there s range i needs.inside)
                (subst (λ x. is_handshake x ≡ true) (sym now) refl)
                (one_of_all s.collector.answered i answers)
                ∙ ap requested_of now in cc
            | inr doubt ↦
                let whole = box_not_raw (field_of s b 5)
                (doubtful_box s b f (field.Cell w) k doubt) in
                let raw = needs.raw in cc
          ]
        ])
      ]);
    }
