-- Stretches follow one another: what was added and what was kept goes together (`calm_then`; for
-- the steps of a claim `paces_then` in Pacing).
use Rattle.std.proofs.Common.{◌≡◌, ℕ, List, [], ◌∷◌, ◌++◌, None, refl, sym, ◌∙◌, ap, subst}
use Rattle.std.proofs.lemmas.List.{append-nil, append_assoc, append_cancel_left}
use Rattle.core_machine.specs.declared.events.Event.{Event}
use Rattle.core_machine.specs.declared.events.Event.TheVariants as event
use Rattle.core_machine.specs.declared.events.Found.{Found}
use Rattle.core_machine.specs.declared.events.Found.TheVariants as finds
use Rattle.core_machine.specs.declared.events.Taken.{Taken}
use Rattle.cell_words.specs.declared.controls.Control.{Control}
use Rattle.core_machine.specs.Places.{cell_at}
use Rattle.heap_rule.specs.Rule.{took}
use Rattle.heap_rule.proofs.Quiet.{cells_unmarked, cells_marked}
use Rattle.mutator_seat.specs.Bound.{Bound, takes}
use Rattle.mutator_seat.specs.Stretches.{Calm, Kept, takes_all}

module _ {P : Type 0} where
  pub takes_all_append : (m : Bound P) (xs ys : List Taken)
      → takes_all m (xs ++ ys) ≡ takes_all (takes_all m xs) ys
  takes_all_append m [] ys = refl
  takes_all_append m (x ∷ xs) ys = takes_all_append (takes m x.event x.found) xs ys

  pub kept_same : (m : Bound P) → Kept m m
  kept_same m = record {
    heap = refl;
    table = refl;
    shape = refl;
    role = refl;
    number = refl;
    room = refl;
    held = refl;
    known = refl;
    pass = refl;
    pending = refl;
    claims = refl;
    inside = refl;
    over = refl;
  }

  pub kept_then : (a b c : Bound P) → Kept a b → Kept b c → Kept a c
  kept_then a b c first second = record {
    heap = second.heap ∙ first.heap;
    table = second.table ∙ first.table;
    shape = second.shape ∙ first.shape;
    role = second.role ∙ first.role;
    number = second.number ∙ first.number;
    room = second.room ∙ first.room;
    held = second.held ∙ first.held;
    known = second.known ∙ first.known;
    pass = second.pass ∙ first.pass;
    pending = second.pending ∙ first.pending;
    claims = second.claims ∙ first.claims;
    inside = second.inside ∙ first.inside;
    over = second.over ∙ first.over;
  }

  -- One event.

  pub kept_look : (m : Bound P) (i : ℕ) (control : Control)
      → Kept m (takes m (event.Look i) (finds.Control control))
  kept_look m i control = record {
    heap = refl;
    table = refl;
    shape = refl;
    role = refl;
    number = refl;
    room = refl;
    held = cells_unmarked m.seat.me.own.held;
    known = refl;
    pass = refl;
    pending = refl;
    claims = refl;
    inside = refl;
    over = refl;
  }

  pub kept_mark : (m : Bound P) (i place : ℕ) (found : Found)
      → Kept m (takes m (event.Mark i place) found)
  kept_mark m i place found = record {
    heap = refl;
    table = refl;
    shape = refl;
    role = refl;
    number = refl;
    room = refl;
    held = cells_marked (cell_at m.seat.me.own.held place) m.seat.me.own.held;
    known = refl;
    pass = refl;
    pending = refl;
    claims = refl;
    inside = refl;
    over = refl;
  }

  pub kept_answer : (m : Bound P) (i : ℕ) → m.seat.me.own.pending ≡ None
      → Kept m (takes m (event.Answer i) finds.Stored)
  kept_answer m i settled = record {
    heap = refl;
    table = refl;
    shape = refl;
    role = refl;
    number = refl;
    room = refl;
    held = cells_unmarked m.seat.me.own.held;
    known = refl;
    pass = refl;
    pending = sym settled;
    claims = refl;
    inside = refl;
    over = refl;
  }

  -- Stretches.

  pub calm_none : (F : List Taken → Type 0) (a : Bound P) → F [] → Calm F a a
  calm_none F a fact = record { added = []; told = refl; kept = kept_same a; fact = fact }

  pub calm_one : (F : List Taken → Type 0) (a b : Bound P) (e : Event) (found : Found)
      → b ≡ takes a e found → Kept a (takes a e found) → F (took e found ∷ []) → Calm F a b
  calm_one F a b e found is kept fact = record {
    added = took e found ∷ [];
    told = is;
    kept = kept_as is;
    fact = fact;
  }
    where
      kept_as : b ≡ takes a e found → Kept a b
      kept_as same = subst (λ (x : Bound P). Kept a x) (sym same) kept

  pub calm_then : (F G H : List Taken → Type 0) (a b c : Bound P)
      → ((xs ys : List Taken) → F xs → G ys → H (xs ++ ys)) → Calm F a b → Calm G b c → Calm H a c
  calm_then F G H a b c both first second = record {
    added = first.added ++ second.added;
    told = second.told
        ∙ ap (λ (m : Bound P). takes_all m second.added) first.told
        ∙ sym (takes_all_append a first.added second.added);
    kept = kept_then a b c first.kept second.kept;
    fact = both first.added second.added first.fact second.fact;
  }

  -- what holds of the events by what else holds of them
  pub calm_as : (F G : List Taken → Type 0) (a b : Bound P) → ((es : List Taken) → F es → G es)
      → Calm F a b → Calm G a b
  calm_as F G a b so calm = record {
    added = calm.added;
    told = calm.told;
    kept = calm.kept;
    fact = so calm.added calm.fact;
  }

  -- Two facts of one stretch: its events are those that the trail grew by.

  pub trail_all : (m : Bound P) (ts : List Taken)
      → (takes_all m ts).seat.me.trail ≡ m.seat.me.trail ++ ts
  trail_all m [] = sym (append-nil m.seat.me.trail)
  trail_all m (t ∷ ts) =
      trail_all (takes m t.event t.found) ts
      ∙ append_assoc m.seat.me.trail (took t.event t.found ∷ []) ts

  same_added : (a b : Bound P) (xs ys : List Taken) → b ≡ takes_all a xs
      → b ≡ takes_all a ys → xs ≡ ys
  same_added a b xs ys first second =
      append_cancel_left a.seat.me.trail xs ys
      (sym (trail_all a xs) ∙ ap (λ (m : Bound P). m.seat.me.trail) (sym first ∙ second)
      ∙ trail_all a ys)

  pub calm_both : (F G : List Taken → Type 0) (a b : Bound P) → Calm F a b → Calm G a b
      → Calm (λ es. F es × G es) a b
  calm_both F G a b first second = record {
    added = first.added;
    told = first.told;
    kept = first.kept;
    fact = (
      first.fact,
      subst G (same_added a b second.added first.added second.told first.told) second.fact,
    );
  }
