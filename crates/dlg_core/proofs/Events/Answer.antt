-- Answer: a mutator takes the status that its mode requests.
--
-- Of the stages that it can have looked at only the last one requests the next status, and the
-- present stage is not before it. So the present stage is that one: the new status is the requested
-- one. In Sync2 no cell is black. In Trace every held cell is on a marked place, so it is not
-- white.
use Rattle.std.proofs.Common.{◌≡◌, ◌≢◌, ◌||◌, ℕ, true, not, List, [], ◌∷◌, map, length, Option}
use Rattle.std.proofs.Common.{Some, None, ◌<◌, refl, sym, subst, ap}
use Rattle.std.specs.Prelude.{slice_set}
use Rattle.std.specs.List.{All}
use Rattle.std.proofs.lemmas.Bool.{and_parts}
use Rattle.std.proofs.lemmas.List.{get_or-set_same}
use Rattle.std.proofs.lemmas.List.Elements.{All-nil, All-cons, All-head, All-tail}
use Rattle.cell_words.specs.declared.colours.Colour.{Colour}
use Rattle.cell_words.specs.declared.colours.Colour.TheVariants as colour
use Rattle.cell_words.specs.declared.controls.Control.{Control}
use Rattle.cell_words.specs.declared.controls.Stage.{Stage}
use Rattle.cell_words.specs.declared.controls.Stage.TheVariants as stage
use Rattle.cell_words.specs.declared.presences.Status.{Status}
use Rattle.cell_words.specs.declared.presences.Status.TheVariants as status
use Rattle.cell_words.specs.Modes.{requested_of, next_status_of}
use Rattle.core_machine.specs.declared.events.Event.TheVariants as event
use Rattle.core_machine.specs.declared.places.Held.{Held}
use Rattle.core_machine.specs.Operations.{next_own_status}
use Rattle.core_machine.specs.State.{State, colour_in, colour_of, presence_of, own_in, own_of}
use Rattle.core_machine.specs.State.{held_of}
use Rattle.core_machine.specs.Words.{requests, same_status, is_handshake}
use Rattle.core_machine.specs.InRange.{IsShaped}
use Rattle.core_machine.specs.Next.{can, after}
use Rattle.core_machine.specs.Own.{Own, no_own, spent}
use Rattle.core_machine.specs.Places.{all_marked, unmark}
use Rattle.core_machine.proofs.Conditions.{answer_needs}
use Rattle.dlg_core.specs.Consistent.{IsConsistent, MarkStands, NoRawBlack}
use Rattle.dlg_core.specs.Facts.{status_fits, async_fits, sync1_fits, sync2_fits, IsStaleMode}
use Rattle.dlg_core.specs.Facts.{marks_count, is_cleared}
use Rattle.dlg_core.proofs.Changes.Own.{own_kept, with_own, spent_fits}
use Rattle.dlg_core.proofs.Changes.Status.{status_kept, StatusFits}
use Rattle.core_machine.proofs.OneOperation.{inside_there}
use Rattle.dlg_core.proofs.HeldLists.{none_marked}

-- the three answers of a cycle, each at its stage
pub data IsAnswer : Status → Stage → Type 0 where
  first : {own : Status} {now : Stage} → own ≡ status.Async → now ≡ stage.Sync1 → IsAnswer own now
  second : {own : Status} {now : Stage} → own ≡ status.Sync1 → now ≡ stage.Sync2 → IsAnswer own now
  third : {own : Status} {now : Stage} → own ≡ status.Sync2 → now ≡ stage.Trace → IsAnswer own now

pub clear_not_async : (now : Stage) → async_fits stage.Clear now ≢ true
clear_not_async stage.Idle e = absurd cc
clear_not_async stage.Sync1 e = absurd cc
clear_not_async stage.Clear e = absurd cc
clear_not_async stage.Sync2 e = absurd cc
clear_not_async stage.Trace e = absurd cc
clear_not_async stage.Sweep e = absurd cc

pub after_async : (looked now : Stage) → same_status (requested_of looked) status.Sync1 ≡ true
    → async_fits looked now ≡ true
    → now ≡ stage.Sync1
after_async stage.Sync1 stage.Sync1 h fits = refl
after_async stage.Clear now h fits = absurd (clear_not_async now fits)
after_async _ _ h fits = absurd cc

pub after_sync1 : (looked now : Stage) → same_status (requested_of looked) status.Sync2 ≡ true
    → sync1_fits looked now ≡ true
    → now ≡ stage.Sync2
after_sync1 stage.Sync2 stage.Sync2 h fits = refl
after_sync1 _ _ h fits = absurd cc

pub after_sync2 : (looked now : Stage) → same_status (requested_of looked) status.Async ≡ true
    → sync2_fits looked now ≡ true
    → now ≡ stage.Trace
after_sync2 stage.Trace stage.Trace h fits = refl
after_sync2 _ _ h fits = absurd cc

pub answer_when : (own : Status) (mode : Option Control) (now : Control)
    → requests mode (next_status_of own) ≡ true
    → IsStaleMode own mode now → IsAnswer own now.stage
answer_when own None now h stale = absurd cc
answer_when status.Async (Some m) now h stale = first refl
    (after_async m.stage now.stage h stale.fits)
answer_when status.Sync1 (Some m) now h stale = second refl
    (after_sync1 m.stage now.stage h stale.fits)
answer_when status.Sync2 (Some m) now h stale = third refl
    (after_sync2 m.stage now.stage h stale.fits)

-- What each answer owes for what is held.

-- all places are marked and marks stand, so no held cell is white
pub all_dark : (colours : List Colour) (held : List Held) → all_marked held ≡ true
    → All (MarkStands colours) held
    → All (λ p. colour_in colours p.cell ≢ colour.White) (map unmark held)
all_dark colours [] h marks = All-nil (λ p. colour_in colours p.cell ≢ colour.White)
all_dark colours (p ∷ ps) h marks =
    let r = and_parts _ _ h in
    All-cons (λ q. colour_in colours q.cell ≢ colour.White) (unmark p) (map unmark ps)
    (All-head (MarkStands colours) p ps marks r.0)
    (all_dark colours ps r.1 (All-tail (MarkStands colours) p ps marks))

-- where no cell is black, no raw cell is
pub none_black : (s : State) (held : List Held) → ((c : ℕ) → colour_of s c ≢ colour.Black)
    → All (NoRawBlack s.colours s.rows) held
none_black s [] dark = All-nil (NoRawBlack s.colours s.rows)
none_black s (p ∷ ps) dark =
    All-cons (NoRawBlack s.colours s.rows) p ps (λ raw. dark p.cell) (none_black s ps dark)

-- the part that was put there, of a mutator that there is
pub own_there : (owns : List Own) (i : ℕ) (own : Own) → i < length owns
    → own_in (slice_set owns i own) i ≡ own
own_there owns i own lt = get_or-set_same owns i own no_own lt

pub answer_of : (s : State) (i : ℕ) (held : List Held) (new : Status) → IsConsistent s
    → (own_of s i).mode ≡ None → (own_of s i).pending ≡ None
    → held_of s i ≡ map unmark held → next_own_status s i ≡ new
    → status_fits s.control.stage new ≡ true
    → (is_handshake s.control.stage ≡ true → new ≡ requested_of s.control.stage)
    → (new ≡ status.Sync2 → (c : ℕ) → colour_of s c ≢ colour.Black)
    → (s.control.stage ≡ stage.Trace → new ≡ status.Async
    → All (λ p. colour_of s p.cell ≢ colour.White) (map unmark held))
    → StatusFits s i (next_own_status s i)
answer_of s i held new k none settled is e fits requested dark due = subst (λ x. StatusFits s i x)
    (sym e) record {
      no_mode = none;
      nothing_pending = settled;
      fits = fits;
      requested = requested;
      marks = (λ m. subst (λ ps. All (MarkStands s.colours) ps) (sym is)
          (none_marked s.colours held));
      raw_not_black = (λ sync2. none_black s (held_of s i) (dark sync2));
      due = (λ trace async. subst (λ ps. All (λ p. colour_of s p.cell ≢ colour.White) ps) (sym is)
          (due trace async));
    }

-- what each of the three answers owes
pub answer_fits : (s : State) (i : ℕ) (held : List Held) → IsConsistent s → (own_of s i).mode ≡ None
    → (own_of s i).pending ≡ None → held_of s i ≡ map unmark held
    → IsAnswer (presence_of s i).status s.control.stage
    → (s.control.stage ≡ stage.Trace
    → All (λ p. colour_of s p.cell ≢ colour.White) (map unmark held))
    → StatusFits s i (next_own_status s i)
answer_fits s i held k none settled is (first own now) dark =
    let new : next_own_status s i ≡ status.Sync1 = ap next_status_of own in
    answer_of s i held status.Sync1 k none settled is new
    (subst (λ x. status_fits x status.Sync1 ≡ true) (sym now) refl)
    (λ h. sym (ap requested_of now)) (λ e. absurd cc) (λ trace e. absurd cc)
answer_fits s i held k none settled is (second own now) dark =
    let new : next_own_status s i ≡ status.Sync2 = ap next_status_of own in
    answer_of s i held status.Sync2 k none settled is new
    (subst (λ x. status_fits x status.Sync2 ≡ true) (sym now) refl)
    (λ h. sym (ap requested_of now))
    (λ e c. k.tracing.cleared c
    (subst (λ x. is_cleared x s.collector.cursor c ≡ true) (sym now) refl))
    (λ trace e. absurd cc)
answer_fits s i held k none settled is (third own now) dark =
    let new : next_own_status s i ≡ status.Async = ap next_status_of own in
    answer_of s i held status.Async k none settled is new
    (subst (λ x. status_fits x status.Async ≡ true) (sym now) refl)
    (λ h. sym (ap requested_of now)) (λ e. absurd cc) (λ trace e. dark trace)

-- the third answer found every place marked
pub third_marked : (s : State) (i : ℕ) → IsAnswer (presence_of s i).status s.control.stage
    → s.control.stage ≡ stage.Trace
    → (not (same_status (next_own_status s i) status.Async) || all_marked (held_of s i)) ≡ true
    → all_marked (held_of s i) ≡ true
third_marked s i (first own now) trace h = absurd cc
third_marked s i (second own now) trace h = absurd cc
third_marked s i (third own now) trace h =
    subst (λ x. (not (same_status (next_status_of x) status.Async) || all_marked (held_of s i))
    ≡ true) own h

pub answer_keeps : (s : State) (i : ℕ) → IsShaped s → IsConsistent s → can s (event.Answer i) ≡ true
    → IsConsistent (after s (event.Answer i))
answer_keeps s i range k h =
    let needs = answer_needs s i h in
    let own = spent (own_of s i) in
    let u = with_own s i own in
    let below : i < length s.owns = subst (λ n. i < n) (sym range.mutators_fit.owns_fit)
    (inside_there s range i needs.inside) in
    let there : own_of u i ≡ own = own_there s.owns i own below in
    let answers = answer_when (presence_of s i).status (own_of s i).mode s.control needs.requested
    (k.mutators.modes i) in
    status_kept u i (next_own_status s i) (own_kept s i own k (spent_fits s i k needs.inside))
    (answer_fits u i (held_of s i) (own_kept s i own k (spent_fits s i k needs.inside))
    (ap (λ o. o.mode) there) (ap (λ o. o.pending) there) (ap (λ o. o.held) there) answers
    (λ trace. all_dark s.colours (held_of s i) (third_marked s i answers trace needs.third)
    (k.mutators.marks i
    (subst (λ x. marks_count x (presence_of s i).status ≡ true) (sym trace) refl))))
