-- What a claim does until it gets its cell, stretch by stretch.
use Rattle.std.proofs.Common.{◌≡◌, ◌&&◌, ℕ, Bool, true, false, List, [], ◌∷◌, ◌++◌}
use Rattle.std.proofs.Common.{refl, sym, ◌∙◌, ap, subst}
use Rattle.std.proofs.lemmas.Bool.{and_parts}
use Rattle.std.proofs.lemmas.List.Folds.{list_all-append}
use Rattle.std.specs.List.{list_all}
use Rattle.cell_words.specs.declared.controls.Control.{Control}
use Rattle.cell_words.specs.Modes.{next_status_of}
use Rattle.cell_words.specs.declared.presences.Status.{Status}
use Rattle.cell_words.specs.declared.presences.Status.TheVariants as status
use Rattle.core_machine.specs.declared.events.Event.{Event}
use Rattle.core_machine.specs.declared.events.Event.TheVariants as event
use Rattle.core_machine.specs.declared.events.Found.{Found}
use Rattle.core_machine.specs.declared.events.Found.TheVariants as finds
use Rattle.core_machine.specs.declared.events.Taken.{Taken}
use Rattle.trails.specs.Claims.{look_of}
use Rattle.mutator_seat.specs.Bound.{Bound, takes}
use Rattle.mutator_seat.specs.Claims.{Seeking, seeks}
use Rattle.mutator_seat.specs.Stretches.{AnsweringIf, AreBefore, Calm, LookAndAnswer, answer_of}
use Rattle.mutator_seat.specs.Stretches.{are_marks, is_mark}
use Rattle.mutator_seat.proofs.Calm.{calm_as, calm_then}
use Rattle.mutator_seat.proofs.Handshakes.{looked_at}

pub seeking_join : (xs ys : List Taken) → Seeking xs → Seeking ys → Seeking (xs ++ ys)
seeking_join xs ys first second =
    list_all-append (λ (t : Taken). seeks t.event t.found) xs ys
    ∙ ap (λ b. b && list_all (λ (t : Taken). seeks t.event t.found) ys) first
    ∙ second

mark_seeks : (e : Event) (found : Found) → is_mark e ≡ true → seeks e found ≡ true
mark_seeks (event.Mark i place) found is = refl
mark_seeks e found is = absurd cc

marks_seek : (es : List Taken) → are_marks es → Seeking es
marks_seek [] are = refl
marks_seek (t ∷ ts) are =
    let parts = and_parts (is_mark t.event) (list_all (λ (u : Taken). is_mark u.event) ts) are in
    ap (λ b. b && list_all (λ (u : Taken). seeks u.event u.found) ts)
    (mark_seeks t.event t.found parts.0) ∙ marks_seek ts parts.1

before_seeks : (own : Status) (es : List Taken) → AreBefore own es → Seeking es
before_seeks status.Async es are = marks_seek es are
before_seeks status.Sync1 es none = subst Seeking (sym none) refl
before_seeks status.Sync2 es none = subst Seeking (sym none) refl

rest_seeks : (answered : Bool) (number : ℕ) (own : Status) (es : List Taken)
    → AnsweringIf answered number own es → Seeking es
rest_seeks true number own es answer =
    subst Seeking (sym answer.split)
    (seeking_join answer.marks (answer_of number ∷ [])
    (before_seeks (next_status_of own) answer.marks answer.marks_are) refl)
rest_seeks false number own es none = subst Seeking (sym none) refl

pub answer_seeks : (number : ℕ) (own : Status) (answered : Bool) (es : List Taken)
    → LookAndAnswer number own answered es → Seeking es
answer_seeks number own answered es both =
    subst Seeking (sym both.split) (rest_seeks answered number own both.rest both.answer)

module _ {P : Type 0} where
  pub look_seeks : (a b : Bound P) (control : Control)
      → b ≡ takes a (event.Look a.seat.me.number) (finds.Control control) → Calm Seeking a b
  look_seeks a b control told =
      calm_as (λ es. es ≡ look_of a.seat.me.number control ∷ []) Seeking a b
      (λ es is. subst Seeking (sym is) refl) (looked_at a b control told)

  pub seeking_then : (a b c : Bound P) → Calm Seeking a b → Calm Seeking b c
      → Calm Seeking a c
  seeking_then a b c first second =
      calm_then Seeking Seeking Seeking a b c seeking_join first second
