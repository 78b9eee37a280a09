-- What a write tells, together with its look and its marks.
use Rattle.std.proofs.Common.{◌≡◌, ℕ, Bool, false, List, [], ◌∷◌, ◌++◌, ◌∙◌, ap}
use Rattle.std.proofs.Common.{subst, Result, Ok, Err, OnOk, IfErr}
use Rattle.cell_words.specs.Modes.{barrier_of}
use Rattle.cell_words.specs.declared.controls.Control.{Control}
use Rattle.cell_words.specs.declared.fields.Field.{Field}
use Rattle.cell_words.specs.declared.presences.Status.{Status}
use Rattle.cell_words.specs.declared.write_barrier.Barrier.{Barrier}
use Rattle.core_machine.specs.declared.events.Event.TheVariants as event
use Rattle.core_machine.specs.declared.events.Found.{Found}
use Rattle.core_machine.specs.declared.events.Found.TheVariants as finds
use Rattle.core_machine.specs.Words.{same_field}
use Rattle.heap_rule.specs.declared.known.Learned.{Learned}
use Rattle.heap_rule.specs.declared.view.View.{View}
use Rattle.heap_rule.specs.Boxes.{Map}
use Rattle.heap_rule.specs.Lore.{cells_in, learned}
use Rattle.heap_rule.proofs.Quiet.{cells_unmarked}
use Rattle.heap_table.specs.Seats.{SeatView}
use Rattle.mutator_events.specs.declared.values.Value.{Value}
use Rattle.mutator_events.specs.Events.{AtEvent}
use Rattle.mutator_events.specs.Values.{field_at}
use Rattle.trails.specs.Claims.{look_of}
use Rattle.mutator_seat.specs.Bound.{Bound, held_cells, takes}
use Rattle.mutator_seat.specs.Stretches.{Calm, MarksOf}
use Rattle.mutator_seat.specs.Writes.{LookAndMarks, Updated, wanted_by, write_of}
use Rattle.mutator_seat.proofs.Calm.{calm_then}
use Rattle.mutator_seat.proofs.Handshakes.{looked_at}
use Rattle.mutator_seat.proofs.Writes.{field_same}

pub ok_then : {T E : Type 0} {A B : Type 0} (r : Result T E) → OnOk r A → (A → B) → OnOk r B
ok_then (Ok x) a f = f a
ok_then (Err e) a f = a

pub err_then : {T E : Type 0} {A B : E → Type 0} (r : Result T E) → IfErr r A
    → ((e : E) → A e → B e) → IfErr r B
err_then (Ok x) a f = a
err_then (Err e) a f = f e a

module _ {P : Type 0} where
  pub looked_and_marked : (a b c : Bound P) (control : Control) (wanted : Barrier) (old new : Value)
      → b ≡ takes a (event.Look a.seat.me.number) (finds.Control control)
      → wanted ≡ barrier_of b.seat.me.presence.status control
      → Calm (MarksOf b.seat.me.number (wanted_by wanted old new)) b c
      → Calm (LookAndMarks a.seat.me.number a.seat.me.presence.status old new) a c
  looked_and_marked a b c control wanted old new told is marks =
      let own = a.seat.me.presence.status in
      let status = ap (λ (m : Bound P). m.seat.me.presence.status) told in
      calm_then (λ es. es ≡ look_of a.seat.me.number control ∷ [])
      (MarksOf b.seat.me.number (wanted_by wanted old new))
      (LookAndMarks a.seat.me.number own old new) a b c
      (λ xs ys first second. record {
        control = control;
        marks = ys;
        split = ap (λ zs. zs ++ ys) first;
        marks_are = subst (λ (n : ℕ). MarksOf n (wanted_by (barrier_of own control) old new) ys)
            (ap (λ (m : Bound P). m.seat.me.number) told)
            (subst (λ (x : Barrier). MarksOf b.seat.me.number (wanted_by x old new) ys)
            (is ∙ ap (λ (s : Status). barrier_of s control) status) second);
      })
      (looked_at a b control told) marks

  -- the value that was expected is the same after the look and the marks
  pub other_as : (m at : Bound P) (old new : Value) (found : Field)
      → Calm (LookAndMarks m.seat.me.number m.seat.me.presence.status old new) m at
      → same_field found (field_at at.seat.me.own.held old) ≡ false
      → same_field found (field_at m.seat.me.own.held old) ≡ false
  other_as m at old new found calm other =
      subst (λ (x : Field). same_field found x ≡ false)
      (field_same at.seat.me.own.held m.seat.me.own.held calm.kept.held old) other

module _ {P : Type 0} (holds : Map → List P → Type 0) (fixed : ℕ → Bool)
    (next : Learned → Found → P → P) (m at : Bound P) (seat : SeatView P) (place f : ℕ)
    (old new : Value)
    (calm : Calm (LookAndMarks m.seat.me.number m.seat.me.presence.status old new) m at) where
  pub updated : (found : Field)
      → AtEvent holds fixed at.seat.me (write_of at place f old new) next (finds.Field found)
      seat.me
      → seat.table ≡ at.seat.table
      → Updated holds fixed next m place f old new found (record { heap = at.heap; seat = seat })
  updated found step table = record {
    at = at;
    calm = calm;
    event = step;
    heap = calm.kept.heap;
    table = table ∙ calm.kept.table;
    held = held_same;
    places = record {
      heap = calm.kept.heap;
      table = table ∙ calm.kept.table;
      shape = ap (λ (v : View P). v.shape) step.new ∙ calm.kept.shape;
      role = ap (λ (v : View P). v.role) step.new ∙ calm.kept.role;
      number = ap (λ (v : View P). v.number) step.new ∙ calm.kept.number;
      room = ap (λ (v : View P). v.room) step.new ∙ calm.kept.room;
      held = held_same;
      claims = ap (λ (v : View P). v.own.claims) step.new ∙ calm.kept.claims;
      inside = ap (λ (v : View P). v.presence.inside) step.new ∙ calm.kept.inside;
      over = ap (λ (v : View P). v.presence.over) step.new ∙ calm.kept.over;
    };
    pass = ap (λ (v : View P). v.pass) step.new
        ∙ ap (next (learned step.core step.lore (write_of at place f old new)) (finds.Field found))
        calm.kept.pass;
  }
    where
      held_same : cells_in seat.me.own.held ≡ held_cells m
      held_same = ap (λ (v : View P). cells_in v.own.held) step.new
          ∙ cells_unmarked at.seat.me.own.held ∙ calm.kept.held

  -- a write that was made found what it expected
  pub updated_as : AtEvent holds fixed at.seat.me (write_of at place f old new) next
      (finds.Field (field_at at.seat.me.own.held old)) seat.me
      → seat.table ≡ at.seat.table
      → Updated holds fixed next m place f old new (field_at m.seat.me.own.held old)
      (record { heap = at.heap; seat = seat })
  updated_as step table =
      subst (λ (x : Field). Updated holds fixed next m place f old new x
      (record { heap = at.heap; seat = seat }))
      (field_same at.seat.me.own.held m.seat.me.own.held calm.kept.held old)
      (updated (field_at at.seat.me.own.held old) step table)
