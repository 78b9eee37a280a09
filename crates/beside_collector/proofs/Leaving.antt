-- A mutator that comes in, and one that goes out and is over.
use Rattle.std.proofs.Common.{◌≡◌, ℕ, List, [], ◌∷◌, ◌++◌, refl, ◌∙◌, ap}
use Rattle.std.proofs.lemmas.List.{append-nil}
use Rattle.beside_collector.specs.Coming.{IsSame, Left}
use Rattle.core_machine.specs.Own.{no_own}
use Rattle.core_machine.specs.Trail.{own_along}
use Rattle.core_machine.specs.declared.events.Event.TheVariants as event
use Rattle.core_machine.specs.declared.events.Found.{Found}
use Rattle.core_machine.specs.declared.events.Taken.{Taken}
use Rattle.heap_rule.specs.Rule.{took}
use Rattle.heap_table.specs.Seats.{SeatView}
use Rattle.mutator_events.specs.Events.{tells}
use Rattle.mutator_seat.specs.Bound.{Bound, takes}
use Rattle.trails.specs.Marks.{Mark, mark_of, marks_of}
use Rattle.trails.proofs.Marks.{marks_push}

-- an event without a mark
quiet : (ts : List Taken) (t : Taken)
    → mark_of (own_along no_own ts) t.event t.found ≡ []
    → marks_of (ts ++ t ∷ []) ≡ marks_of ts
quiet ts t none =
    marks_push ts t ∙ ap (λ (ms : List Mark). marks_of ts ++ ms) none
    ∙ append-nil (marks_of ts)

module _ {P : Type 0} (a b : Bound P) (i : ℕ) (found : Found) where
  pub same_in : b ≡ takes a (event.Begin i) found → IsSame a b
  same_in is = record {
    heap = ap (λ (m : Bound P). m.heap) is;
    table = ap (λ (m : Bound P). m.seat.table) is;
    shape = ap (λ (m : Bound P). m.seat.me.shape) is;
    number = ap (λ (m : Bound P). m.seat.me.number) is;
    room = ap (λ (m : Bound P). m.seat.me.room) is;
    pass = ap (λ (m : Bound P). m.seat.me.pass) is;
    claims = ap (λ (m : Bound P). m.seat.me.own.claims) is;
    marks = ap (λ (m : Bound P). marks_of m.seat.me.trail) is
        ∙ quiet a.seat.me.trail (took (event.Begin i) found) refl;
  }

  pub same_out : b ≡ takes a (event.End i) found → IsSame a b
  same_out is = record {
    heap = ap (λ (m : Bound P). m.heap) is;
    table = ap (λ (m : Bound P). m.seat.table) is;
    shape = ap (λ (m : Bound P). m.seat.me.shape) is;
    number = ap (λ (m : Bound P). m.seat.me.number) is;
    room = ap (λ (m : Bound P). m.seat.me.room) is;
    pass = ap (λ (m : Bound P). m.seat.me.pass) is;
    claims = ap (λ (m : Bound P). m.seat.me.own.claims) is;
    marks = ap (λ (m : Bound P). marks_of m.seat.me.trail) is
        ∙ quiet a.seat.me.trail (took (event.End i) found) refl;
  }

  -- out, and over
  pub left_so : (seat : SeatView P) → IsSame a b → seat ≡ tells b.seat (event.Over i) found
      → Left a seat
  left_so seat out is = record {
    table = ap (λ (s : SeatView P). s.table) is ∙ out.table;
    shape = ap (λ (s : SeatView P). s.me.shape) is ∙ out.shape;
    number = ap (λ (s : SeatView P). s.me.number) is ∙ out.number;
    room = ap (λ (s : SeatView P). s.me.room) is ∙ out.room;
    pass = ap (λ (s : SeatView P). s.me.pass) is ∙ out.pass;
    claims = ap (λ (s : SeatView P). s.me.own.claims) is ∙ out.claims;
    marks = ap (λ (s : SeatView P). marks_of s.me.trail) is
        ∙ quiet b.seat.me.trail (took (event.Over i) found) refl ∙ out.marks;
    over = ap (λ (s : SeatView P). s.me.presence.over) is;
  }
