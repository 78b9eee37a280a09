-- Duty, Poll and AnswerOut: what the collector does while it waits.
--
-- Duty       only the duty bit changes, and no fact reads it.
-- Poll       who has the requested status is noted as having answered.
-- AnswerOut  a mutator that is out takes the requested status. It holds nothing, has no mode and
--            no pending write, so nothing is owed for it.
use Rattle.std.proofs.Common.{◌≡◌, ◌≢◌, ℕ, zero, suc, Bool, true, false, List, [], ◌∷◌, ◌<◌, arith}
use Rattle.std.proofs.Common.{refl, sym, subst, ap, if◌then◌else◌}
use Rattle.std.specs.Prelude.{slice_set}
use Rattle.std.proofs.Math.ListN.{set}
use Rattle.std.specs.List.{All}
use Rattle.std.proofs.lemmas.Bool.{and_parts, and_from, not-true}
use Rattle.std.proofs.lemmas.List.{get_or-set_same, set-get_or}
use Rattle.std.proofs.lemmas.List.Elements.{All-nil}
use Rattle.cell_words.specs.declared.colours.Colour.TheVariants.{White}
use Rattle.cell_words.specs.declared.controls.Stage.{Stage}
use Rattle.cell_words.specs.declared.controls.Stage.TheVariants as stage
use Rattle.cell_words.specs.declared.presences.Status.{Status}
use Rattle.cell_words.specs.Modes.{requested_of}
use Rattle.core_machine.specs.declared.events.Event.TheVariants as event
use Rattle.core_machine.specs.Collector.{answered_by}
use Rattle.core_machine.specs.Handshakes.{wanted_of}
use Rattle.core_machine.specs.State.{State, colour_of, presence_of, own_in, no_presence}
use Rattle.core_machine.specs.Words.{same_status, is_handshake, may_answer_out}
use Rattle.core_machine.specs.InRange.{IsShaped}
use Rattle.core_machine.specs.Next.{can, after}
use Rattle.dlg_core.specs.Consistent.{IsConsistent, MarkStands, NoRawBlack}
use Rattle.dlg_core.specs.Facts.{status_fits, all_in}
use Rattle.dlg_core.proofs.Changes.Pass.{pass_kept}
use Rattle.dlg_core.proofs.Changes.Status.{status_kept, with_status, StatusFits, stale_on}
use Rattle.dlg_core.proofs.Each.{set_each}
use Rattle.dlg_core.proofs.Truths.{same_status_is}

-- Duty.

pub duty_keeps : (s : State) (on : Bool) → IsConsistent s → IsConsistent (after s (event.Duty on))
duty_keeps s on k = record {
  mutators = record {
    statuses = k.mutators.statuses;
    answered = k.mutators.answered;
    modes = (λ i. stale_on (presence_of s i).status (own_in s.owns i).mode s.control
        (record s.control { duty = on }) refl
        (λ _. omega arith) (k.mutators.modes i));
    out = k.mutators.out;
    marks = k.mutators.marks;
  };
  cells = record {
    anchor_box = k.cells.anchor_box;
    kinds = k.cells.kinds;
    blue_null = k.cells.blue_null;
    anchor_live = k.cells.anchor_live;
    held_live = k.cells.held_live;
    child_live = k.cells.child_live;
    names_live = k.cells.names_live;
    raw_once = k.cells.raw_once;
    raw_not_black = k.cells.raw_not_black;
    pendings = k.cells.pendings;
  };
  tracing = k.tracing;
  sweep = record {
    unswept = k.sweep.unswept;
    wipes = k.sweep.wipes;
    found_black = k.sweep.found_black;
  };
}

-- Poll.

-- who has all answers has them with one answer more
pub all_with : (answered : List Bool) (i : ℕ) → all_in answered ≡ true
    → all_in (slice_set answered i true) ≡ true
all_with [] i h = refl
all_with (a ∷ rest) zero h = (and_parts _ _ h).1
all_with (a ∷ rest) (suc i) h = let r = and_parts _ _ h in and_from a _ r.0 (all_with rest i r.1)

-- mutator i is noted as having answered
pub noted_kept : (s : State) (i : ℕ) → IsConsistent s
    → (i < s.mutators → is_handshake s.control.stage ≡ true → (presence_of s i).status
    ≡ requested_of s.control.stage)
    → IsConsistent (record s { collector = answered_by s.collector i true })
noted_kept s i k fits =
    pass_kept s (slice_set s.collector.answered i true) s.collector.anchor_marked s.collector.cursor
    s.collector.clean s.collector.scan k record {
      answers = (λ j lt now has. set_each
          (λ n a. n < s.mutators → a ≡ true → (presence_of s n).status
          ≡ requested_of s.control.stage)
          s.collector.answered i true true (λ _ below done. fits below now)
          (λ n below done. k.mutators.answered n below now done) j lt has);
      child_live = k.cells.child_live;
      tracing = record {
        cleared = k.tracing.cleared;
        anchor_marked = k.tracing.anchor_marked;
        traced = k.tracing.traced;
        clean_pass = k.tracing.clean_pass;
        pass_waits = (λ now waits. elim (all_in s.collector.answered)
            as (λ b. all_in s.collector.answered ≡ b → s.collector.cursor ≡ 0) [
              | true ↦ λ all. absurd (let more = all_with s.collector.answered i all in cc)
              | false ↦ λ few. k.tracing.pass_waits now few
            ] refl);
        scans = (λ x e. let r = k.tracing.scans x e in record {
          traces = r.traces;
          answers = all_with s.collector.answered i r.answers;
          gray = r.gray;
          unclean = r.unclean;
        });
      };
    }

pub poll_keeps : (s : State) (i : ℕ) → IsConsistent s → IsConsistent (after s (event.Poll i))
poll_keeps s i k =
    elim (same_status (presence_of s i).status (requested_of s.control.stage)) as
    (λ b. same_status (presence_of s i).status (requested_of s.control.stage) ≡ b
    → IsConsistent (record s { collector = answered_by s.collector i b })) [
      | true ↦ λ h. noted_kept s i k
          (λ _ _. same_status_is (presence_of s i).status (requested_of s.control.stage) h)
      | false ↦ λ h. k
    ] refl

-- AnswerOut.

-- the requested status is one that there may be
pub requested_fits : (now : Stage) → status_fits now (requested_of now) ≡ true
requested_fits stage.Idle = refl
requested_fits stage.Sync1 = refl
requested_fits stage.Clear = refl
requested_fits stage.Sync2 = refl
requested_fits stage.Trace = refl
requested_fits stage.Sweep = refl

-- nothing is owed for who holds nothing
pub out_fits : (s : State) (i : ℕ) → IsConsistent s → (presence_of s i).inside ≡ false
    → StatusFits s i (requested_of s.control.stage)
out_fits s i k outside =
    let nothing = (k.mutators.out i outside).0 in
    record {
      no_mode = (k.mutators.out i outside).1;
      nothing_pending = (k.mutators.out i outside).2;
      fits = requested_fits s.control.stage;
      requested = (λ h. refl);
      marks = (λ m. subst (λ ps. All (MarkStands s.colours) ps) (sym nothing)
          (All-nil (MarkStands s.colours)));
      raw_not_black = (λ e. subst (λ ps. All (NoRawBlack s.colours s.rows) ps) (sym nothing)
          (All-nil (NoRawBlack s.colours s.rows)));
      due = (λ now e. subst (λ ps. All (λ p. colour_of s p.cell ≢ White) ps) (sym nothing)
          (All-nil (λ p. colour_of s p.cell ≢ White)));
    }

-- the status that was taken is there
pub wanted_there : (s : State) (i : ℕ) (new : Status) → IsShaped s → i < s.mutators
    → (presence_of (with_status s i new) i).status ≡ new
wanted_there s i new range lt =
    ap (λ p. p.status)
    (get_or-set_same s.presences i (record (presence_of s i) { status = new }) no_presence
    (subst (λ n. i < n) (sym range.mutators_fit.presences_fit) lt))

pub answer_out_keeps : (s : State) (i : ℕ) (over : Bool) → IsShaped s → IsConsistent s
    → can s (event.AnswerOut i over) ≡ true
    → IsConsistent (after s (event.AnswerOut i over))
answer_out_keeps s i over range k h =
    let found = presence_of s i in
    let wanted = wanted_of s in
    elim (may_answer_out wanted over found) as (λ b. may_answer_out wanted over found ≡ b
    → IsConsistent (record s {
      presences = slice_set s.presences i (if b then record found { status = wanted } else found);
      collector = answered_by s.collector i b;
    })) [
      | false ↦ λ e. subst (λ ps. IsConsistent (record s { presences = ps }))
          (sym (set-get_or s.presences i no_presence)) k
      | true ↦ λ e.
          let a = and_parts _ _ e in
          let b = and_parts _ _ a.0 in
          let t = with_status s i wanted in
          noted_kept t i (status_kept s i wanted k (out_fits s i k (not-true found.inside b.0)))
          (λ below now. wanted_there s i wanted range below)
    ] refl
