-- A handshake as one stretch: the look, the marks, and the answer.
use Rattle.std.proofs.Common.{◌≡◌, ℕ, true, false, [], ◌∷◌, ◌++◌, None, refl, ◌∙◌, ap, subst}
use Rattle.cell_words.specs.Modes.{next_status_of}
use Rattle.cell_words.specs.declared.controls.Control.{Control}
use Rattle.cell_words.specs.declared.presences.Status.{Status}
use Rattle.core_machine.specs.declared.events.Event.TheVariants as event
use Rattle.core_machine.specs.declared.events.Found.TheVariants as finds
use Rattle.trails.specs.Claims.{look_of}
use Rattle.mutator_seat.specs.Bound.{Bound, takes}
use Rattle.mutator_seat.specs.Stretches.{Answering, AreBefore, Calm, LookAndAnswer, answer_of}
use Rattle.mutator_seat.specs.Stretches.{asks_next}
use Rattle.mutator_seat.proofs.Calm.{calm_one, calm_then, kept_answer, kept_look}

module _ {P : Type 0} (a b : Bound P) where
  pub looked_at : (control : Control)
      → b ≡ takes a (event.Look a.seat.me.number) (finds.Control control)
      → Calm (λ es. es ≡ look_of a.seat.me.number control ∷ []) a b
  looked_at control told =
      calm_one (λ es. es ≡ look_of a.seat.me.number control ∷ []) a b
      (event.Look a.seat.me.number) (finds.Control control) told
      (kept_look a a.seat.me.number control) refl

  -- the look asked for the answer that followed
  pub answered : (c : Bound P) (control : Control)
      → b ≡ takes a (event.Look a.seat.me.number) (finds.Control control)
      → true ≡ asks_next control b.seat.me.presence.status
      → Calm (Answering b.seat.me.number b.seat.me.presence.status) b c
      → Calm (LookAndAnswer a.seat.me.number a.seat.me.presence.status true) a c
  answered c control told asked rest =
      calm_then (λ es. es ≡ look_of a.seat.me.number control ∷ [])
      (Answering b.seat.me.number b.seat.me.presence.status)
      (LookAndAnswer a.seat.me.number a.seat.me.presence.status true) a b c
      (λ xs ys first second. record {
        control = control;
        rest = ys;
        split = ap (λ zs. zs ++ ys) first;
        asked = asked
            ∙ ap (λ (m : Bound P). asks_next control m.seat.me.presence.status) told;
        answer = subst (λ (n : ℕ). Answering n a.seat.me.presence.status ys)
            (ap (λ (m : Bound P). m.seat.me.number) told)
            (subst (λ (own : Status). Answering b.seat.me.number own ys)
            (ap (λ (m : Bound P). m.seat.me.presence.status) told) second);
      })
      (looked_at control told) rest

  -- the look asked for none
  pub unasked : (control : Control)
      → b ≡ takes a (event.Look a.seat.me.number) (finds.Control control)
      → false ≡ asks_next control b.seat.me.presence.status
      → Calm (LookAndAnswer a.seat.me.number a.seat.me.presence.status false) a b
  unasked control told asked =
      calm_one (LookAndAnswer a.seat.me.number a.seat.me.presence.status false) a b
      (event.Look a.seat.me.number) (finds.Control control) told
      (kept_look a a.seat.me.number control)
      (record {
        control = control;
        rest = [];
        split = refl;
        asked = asked
            ∙ ap (λ (m : Bound P). asks_next control m.seat.me.presence.status) told;
        answer = refl;
      })

  -- marks, and then the answer
  pub answered_behind : (c : Bound P) → b.seat.me.own.pending ≡ None
      → Calm (AreBefore (next_status_of a.seat.me.presence.status)) a b
      → c ≡ takes b (event.Answer b.seat.me.number) finds.Stored
      → Calm (Answering a.seat.me.number a.seat.me.presence.status) a c
  answered_behind c settled marks told =
      calm_then (AreBefore (next_status_of a.seat.me.presence.status))
      (λ es. es ≡ answer_of a.seat.me.number ∷ [])
      (Answering a.seat.me.number a.seat.me.presence.status) a b c
      (λ xs ys first second. record {
        marks = xs;
        split = ap (λ zs. xs ++ zs) second;
        marks_are = first;
      }) marks
      (calm_one (λ es. es ≡ answer_of a.seat.me.number ∷ []) b c
      (event.Answer b.seat.me.number) finds.Stored told
      (kept_answer b b.seat.me.number settled)
      (ap (λ n. answer_of n ∷ []) marks.kept.number))
