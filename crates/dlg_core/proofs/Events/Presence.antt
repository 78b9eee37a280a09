-- Begin, End and Over: a mutator comes in with the anchor, goes out and drops all, is out for good.
--
-- Begin  the anchor is live and sealed; while the collector traces it is not white, so an async
--        mutator that comes in holds nothing that could be cut off.
-- End    nothing is held, so nothing is owed.
-- Over   only who is out ends for good.
use Rattle.std.proofs.Common.{◌≡◌, ◌==◌, inl, inr, ℕ, Bool, true, false, not, List, [], ◌<◌, length}
use Rattle.std.proofs.Common.{refl, sym, subst, ◌∙◌, ap}
use Rattle.std.specs.Prelude.{slice_set}
use Rattle.std.proofs.lemmas.Bool.{and_parts, or_cases, eqb-true, cases_lt}
use Rattle.std.proofs.lemmas.List.{get_or-set_same, get_or_past, set_past}
use Rattle.std.proofs.lemmas.List.Elements.{All-nil, All-cons}
use Rattle.cell_words.specs.declared.controls.Stage.{Stage}
use Rattle.cell_words.specs.declared.presences.Presence.{Presence}
use Rattle.cell_words.specs.declared.controls.Stage.TheVariants as stage
use Rattle.core_machine.specs.declared.events.Event.TheVariants as event
use Rattle.core_machine.specs.Operations.{may_begin}
use Rattle.core_machine.specs.State.{State, presence_of, presence_in, own_of, own_in, field_of}
use Rattle.core_machine.specs.State.{no_presence}
use Rattle.core_machine.specs.Words.{is_raw_kind}
use Rattle.core_machine.specs.Next.{can, after}
use Rattle.core_machine.specs.Own.{Own, no_own, begun, ended}
use Rattle.core_machine.specs.Places.{found_at}
use Rattle.core_machine.proofs.Conditions.{come_in_needs}
use Rattle.dlg_core.specs.Consistent.{IsConsistent, HoldsNothing, MarkStands, NoRawBlack}
use Rattle.dlg_core.specs.Facts.{live, anchor_counts}
use Rattle.dlg_core.proofs.Changes.Own.{own_kept, with_own}
use Rattle.dlg_core.proofs.Changes.Presence.{presence_kept, with_presence, same_statuses}
use Rattle.dlg_core.proofs.CutOff.{not_white_outside}
use Rattle.dlg_core.proofs.Doubtful.{no_pending, no_doubt}
use Rattle.dlg_core.proofs.Truths.{box_not_raw}

-- who may begin is one that there is
pub begins_below : (s : State) (i : ℕ) → may_begin s i ≡ true → i < length s.presences
begins_below s i h = elim (cases_lt i (length s.presences)) [
  | inl lt ↦ lt
  | inr past ↦
      let gone : presence_in s.presences i
      ≡ no_presence = get_or_past s.presences i no_presence past in
      let over : not (presence_of s i).over ≡ false = ap (λ p. not p.over) gone in
      absurd (let r = and_parts (not (presence_of s i).inside) (not (presence_of s i).over) h in cc)
]

-- while the collector traces the anchor counts as marked
pub marked_in_trace : (now : Stage) (marked : Bool) → now ≡ stage.Trace
    → anchor_counts now marked ≡ true
marked_in_trace now marked e = subst (λ x. anchor_counts x marked ≡ true) (sym e) refl

pub begin_keeps : (s : State) (i : ℕ) → IsConsistent s → can s (event.Begin i) ≡ true
    → IsConsistent (after s (event.Begin i))
begin_keeps s i k h =
    let p : Presence = record (presence_of s i) { inside = true } in
    let t = with_presence s i p in
    let here : presence_of t i
    ≡ p = get_or-set_same s.presences i p no_presence (begins_below s i h) in
    let same = same_statuses s i p refl i in
    let nothing = k.mutators.out i (come_in_needs s i h).out in
    let sealed : is_raw_kind (field_of s 0 5)
    ≡ false = box_not_raw (field_of s 0 5) k.cells.anchor_box in
    own_kept t i (begun (own_of s i)) (presence_kept s i p k refl (λ o. absurd cc)) record {
      mode = tt;
      out = (λ o. absurd
          (let inside : (presence_of t i).inside ≡ true = ap (λ q. q.inside) here in cc));
      marks = (λ m. All-cons (MarkStands s.colours) (found_at 0) [] (λ h2. absurd cc)
          (All-nil (MarkStands s.colours)));
      held_live = All-cons (λ place. live s.colours s.control s.collector.sweep place.cell ≡ true)
          (found_at 0) [] k.cells.anchor_live
          (All-nil (λ place. live s.colours s.control s.collector.sweep place.cell ≡ true));
      raw = (λ c raw held. absurd (elim (or_cases (0 == c) false held) [
        | inl is ↦ let e : 0 ≡ c = eqb-true 0 c is in
            let whole : is_raw_kind (field_of s c 5)
            ≡ false = subst (λ n. is_raw_kind (field_of s n 5) ≡ false) e sealed in cc
        | inr other ↦ cc
      ]));
      raw_not_black = (λ sync2. All-cons (NoRawBlack s.colours s.rows) (found_at 0) []
          (λ raw. absurd cc) (All-nil (NoRawBlack s.colours s.rows)));
      due = (λ now async set cut old. All-cons (λ place. set place.cell ≡ false) (found_at 0) []
          (not_white_outside s set 0 cut
          (k.tracing.anchor_marked
          (marked_in_trace s.control.stage s.collector.anchor_marked now)))
          (All-nil (λ place. set place.cell ≡ false)));
      pendings = no_pending (presence_of t i).status (begun (own_of s i)) s.rows nothing.2;
      doubts = (λ c f x n doubt. absurd (no_doubt (begun (own_of s i)) c f x nothing.2 doubt));
    }

-- a part that holds nothing stands where it was put, or nothing stands there
pub nothing_at : (owns : List Own) (i : ℕ) (own : Own) → HoldsNothing own
    → HoldsNothing (own_in (slice_set owns i own) i)
nothing_at owns i own none = elim (cases_lt i (length owns)) [
  | inl lt ↦ let e : own_in (slice_set owns i own) i ≡ own = get_or-set_same owns i own no_own lt in
      subst HoldsNothing (sym e) none
  | inr past ↦
      let same : slice_set owns i own ≡ owns = set_past owns i own past in
      let e : own_in (slice_set owns i own) i ≡ no_own
      = ap (λ xs. own_in xs i) same ∙ get_or_past owns i no_own past in
      subst HoldsNothing (sym e) (refl, refl, refl)
]

-- no mutator that is out owes anything for what it does not hold
pub end_keeps : (s : State) (i : ℕ) → IsConsistent s → can s (event.End i) ≡ true
    → IsConsistent (after s (event.End i))
end_keeps s i k inside =
    let own = ended (own_of s i) in
    let t = with_own s i own in
    presence_kept t i (record (presence_of s i) { inside = false })
    (own_kept s i own k record {
      mode = tt;
      out = (λ o. (refl, refl, refl));
      marks = (λ m. All-nil (MarkStands s.colours));
      held_live = All-nil (λ place. live s.colours s.control s.collector.sweep place.cell ≡ true);
      raw = (λ c raw held. absurd cc);
      raw_not_black = (λ sync2. All-nil (NoRawBlack s.colours s.rows));
      due = (λ now async set cut old. All-nil (λ place. set place.cell ≡ false));
      pendings = (λ write e. absurd cc);
      doubts = (λ c f x n doubt. absurd (let e = doubt.begun in cc));
    })
    refl
    (λ o. nothing_at s.owns i own (refl, refl, refl))

pub over_keeps : (s : State) (i : ℕ) → IsConsistent s → can s (event.Over i) ≡ true
    → IsConsistent (after s (event.Over i))
over_keeps s i k h =
    presence_kept s i (record (presence_of s i) { over = true }) k refl
    (λ o. k.mutators.out i (come_in_needs s i h).out)
