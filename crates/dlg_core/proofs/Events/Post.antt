-- Post: the collector goes on to the next stage. No cell and no mutator changes.
--
-- Before each post every mutator has the status that the old stage requests: it has answered, or
-- there was nothing to answer. So each mode that can be held then can be held after.
--
-- Clear, Sync2  nothing is cleared yet; all is cleared, since the cursor is at the end.
-- Trace         no cell is black, nobody is async, there is no scan and no write is pending, since
--               a mode of sync2 lets none: so nothing is due.
-- Sweep         the pass was clean and has come to the end, so no cell is gray, and the white cells
--               are cut off. None of them is due: what is held and what black cells name is black.
-- Idle          the sweep has come to the end, so no cell is unswept.
use Rattle.std.proofs.Common.{◌≡◌, ◌≢◌, ◌==◌, ◌&&◌, ◌||◌, inl, inr, ℕ, zero, suc, Bool, true, false}
use Rattle.std.proofs.Common.{not, nat_lt, List, [], ◌∷◌, Option, Some, None, length, get_or, ◌+◌}
use Rattle.std.proofs.Common.{◌<◌, ◌≤◌, arith, refl, sym, subst, ◌∙◌, ap, eq-eqb}
use Rattle.std.specs.List.{All}
use Rattle.std.proofs.lemmas.Bool.{and_from, ltb-true, lt-ltb, cases_lt}
use Rattle.std.proofs.lemmas.List.{get_or_past}
use Rattle.std.proofs.lemmas.List.Elements.{All-nil}
use Rattle.cell_words.specs.declared.colours.Colour.{Colour}
use Rattle.cell_words.specs.declared.colours.Colour.TheVariants as colour
use Rattle.cell_words.specs.declared.controls.Control.{Control}
use Rattle.cell_words.specs.declared.controls.Stage.{Stage}
use Rattle.cell_words.specs.declared.controls.Stage.TheVariants as stage
use Rattle.cell_words.specs.declared.fields.Field.TheVariants as field
use Rattle.cell_words.specs.declared.presences.Status.{Status}
use Rattle.cell_words.specs.declared.presences.Status.TheVariants as status
use Rattle.cell_words.specs.Modes.{requested_of}
use Rattle.core_machine.specs.declared.events.Event.TheVariants as event
use Rattle.core_machine.specs.declared.progress.Scanning.{Scanning}
use Rattle.core_machine.specs.declared.progress.Sweeping.{Sweeping}
use Rattle.core_machine.specs.declared.progress.Sweeping.TheVariants as sweeping
use Rattle.core_machine.specs.Collector.{Collector, nobody_answered, posted}
use Rattle.core_machine.specs.State.{State, colour_of, presence_of, own_of, held_of}
use Rattle.core_machine.specs.Words.{is_handshake, same_stage, same_status, lets_store}
use Rattle.core_machine.specs.InRange.{IsShaped, StageFits, SweepFits}
use Rattle.core_machine.specs.Next.{can, after}
use Rattle.core_machine.specs.Own.{no_own}
use Rattle.dlg_core.specs.Consistent.{IsConsistent, Statuses, Answered, Modes, Marks, MarkStands}
use Rattle.dlg_core.specs.Consistent.{TracingConsistent, SweepConsistent}
use Rattle.dlg_core.specs.Facts.{status_fits, mode_fits, async_fits, sync1_fits, sync2_fits}
use Rattle.dlg_core.specs.Facts.{IsStale, IsStaleMode, marks_count, is_live, live, unswept}
use Rattle.dlg_core.specs.Facts.{is_cleared, anchor_counts, all_in, child_in}
use Rattle.dlg_core.proofs.Changes.Live.{LiveFacts, live_facts, live_moves, live_outside}
use Rattle.dlg_core.proofs.Changes.Live.{not_sweeping, other_stage, unswept_where}
use Rattle.dlg_core.proofs.Truths.{or_here, or_later, one_of_all, no_scan_is}
use Rattle.dlg_core.proofs.Each.{all_held, all_from_held}
use Rattle.core_machine.specs.Places.{holds}
use Rattle.core_machine.proofs.Conditions.{post_idle_needs, post_sync1_needs, post_clear_needs}
use Rattle.core_machine.proofs.Conditions.{post_sync2_needs, post_trace_needs, post_sweep_needs}
use Rattle.dlg_core.proofs.CutOff.{is_white, white_is_white, white_cut_off}
use Rattle.dlg_core.proofs.Doubtful.{no_doubt}

-- Modes that fit one stage fit the next.

pub idle_to_sync1 : (looked : Stage) → async_fits looked stage.Idle ≡ true
    → async_fits looked stage.Sync1 ≡ true
idle_to_sync1 stage.Idle h = refl
idle_to_sync1 stage.Trace h = refl
idle_to_sync1 stage.Sweep h = refl
idle_to_sync1 _ h = absurd cc

pub sync1_to_clear : (looked : Stage) → sync1_fits looked stage.Sync1 ≡ true
    → sync1_fits looked stage.Clear ≡ true
sync1_to_clear stage.Sync1 h = refl
sync1_to_clear _ h = absurd cc

pub clear_to_sync2 : (looked : Stage) → sync1_fits looked stage.Clear ≡ true
    → sync1_fits looked stage.Sync2 ≡ true
clear_to_sync2 stage.Sync1 h = refl
clear_to_sync2 stage.Clear h = refl
clear_to_sync2 _ h = absurd cc

pub sync2_to_trace : (looked : Stage) → sync2_fits looked stage.Sync2 ≡ true
    → sync2_fits looked stage.Trace ≡ true
sync2_to_trace stage.Sync2 h = refl
sync2_to_trace _ h = absurd cc

pub trace_to_sweep : (looked : Stage) → async_fits looked stage.Trace ≡ true
    → async_fits looked stage.Sweep ≡ true
trace_to_sweep stage.Trace h = refl
trace_to_sweep _ h = absurd cc

pub sweep_to_idle : (looked : Stage) → async_fits looked stage.Sweep ≡ true
    → async_fits looked stage.Idle ≡ true
sweep_to_idle stage.Trace h = refl
sweep_to_idle stage.Sweep h = refl
sweep_to_idle _ h = absurd cc

-- Everybody has the status that the stage requests.

abbrev pub IsSettled : State → Type 0
IsSettled s = (i : ℕ) → i < s.mutators → (presence_of s i).status ≡ requested_of s.control.stage

-- since all have answered
pub settled_by_answers : (s : State) → IsConsistent s → is_handshake s.control.stage ≡ true
    → all_in s.collector.answered ≡ true → IsSettled s
settled_by_answers s k now all i lt = k.mutators.answered i lt now
    (one_of_all s.collector.answered i all)

-- since there is nothing to answer
pub settled_at : (now : Stage) (own : Status) → is_handshake now ≡ false
    → status_fits now own ≡ true → own ≡ requested_of now
settled_at stage.Idle status.Async h fits = refl
settled_at stage.Clear status.Sync1 h fits = refl
settled_at stage.Sweep status.Async h fits = refl
settled_at _ _ h fits = absurd cc

pub settled_quiet : (s : State) → IsConsistent s → is_handshake s.control.stage ≡ false
    → IsSettled s
settled_quiet s k h i lt = settled_at s.control.stage (presence_of s i).status h
    (k.mutators.statuses i lt)

-- a mutator that there is not has the opening part
pub nobody : (s : State) (i : ℕ) → IsShaped s → s.mutators ≤ i → own_of s i ≡ no_own
nobody s i range past = get_or_past s.owns i no_own
    (subst (λ n. n ≤ i) (sym range.mutators_fit.owns_fit) past)

-- What a post owes.

pub record PostFits (s : State) (control : Control) (collector : Collector) : Type 0 where
  pub statuses : Statuses s.mutators control.stage s.presences
  pub answered : Answered s.mutators control.stage s.presences collector.answered
  pub modes : Modes control s.presences s.owns
  pub marks : Marks control.stage s.presences s.owns s.colours
  pub lives : LiveFacts (live s.colours control collector.sweep) s.rows s.owns collector.scan
  pub tracing : TracingConsistent control.stage s.presences s.owns s.colours s.rows
      collector.answered collector.anchor_marked collector.cursor collector.clean collector.scan
  pub sweep : SweepConsistent control s.colours s.rows collector.sweep

pub post_kept : (s : State) (control : Control) (collector : Collector) → IsConsistent s
    → PostFits s control collector
    → IsConsistent (record s { control = control; collector = collector })
post_kept s control collector k fits = record {
  mutators = record {
    statuses = fits.statuses;
    answered = fits.answered;
    modes = fits.modes;
    out = k.mutators.out;
    marks = fits.marks;
  };
  cells = record {
    anchor_box = k.cells.anchor_box;
    kinds = k.cells.kinds;
    blue_null = k.cells.blue_null;
    anchor_live = fits.lives.anchor;
    held_live = fits.lives.held;
    child_live = fits.lives.child;
    names_live = fits.lives.names;
    raw_once = k.cells.raw_once;
    raw_not_black = k.cells.raw_not_black;
    pendings = k.cells.pendings;
  };
  tracing = fits.tracing;
  sweep = fits.sweep;
}

-- Parts that many posts owe alike.

pub mode_on : (own : Status) (mode : Option Control) (now later : Control)
    → ((looked : Stage) → mode_fits own looked now.stage ≡ true → mode_fits own looked later.stage
    ≡ true)
    → ((m : Control) → IsStale own m now → m.stage ≡ stage.Sweep → later.stage ≡ stage.Sweep
    → m.position ≤ later.position)
    → IsStaleMode own mode now → IsStaleMode own mode later
mode_on own None now later on position stale = tt
mode_on own (Some m) now later on position
    stale = record { fits = on m.stage stale.fits; position = position m stale }

-- with one status for everybody, each mode that fits fits on
pub modes_on : (s : State) (later : Control) → IsShaped s → IsConsistent s → IsSettled s
    → ((looked : Stage) → mode_fits (requested_of s.control.stage) looked s.control.stage ≡ true
    → mode_fits (requested_of s.control.stage) looked later.stage ≡ true)
    → ((mode : Control) → IsStale (requested_of s.control.stage) mode s.control → mode.stage
    ≡ stage.Sweep
    → later.stage ≡ stage.Sweep → mode.position ≤ later.position)
    → Modes later s.presences s.owns
modes_on s later range k settled on position i = elim (cases_lt i s.mutators) [
  | inl lt ↦ subst (λ own. IsStaleMode own (own_of s i).mode later) (sym (settled i lt))
      (mode_on (requested_of s.control.stage) (own_of s i).mode s.control later on position
      (subst (λ own. IsStaleMode own (own_of s i).mode s.control) (settled i lt)
      (k.mutators.modes i)))
  | inr past ↦ subst (λ o. IsStaleMode (presence_of s i).status o.mode later)
      (sym (nobody s i range past)) tt
]

-- nobody has answered a handshake that begins
pub none_answered : (answered : List Bool) (i : ℕ) → i < length answered
    → get_or (nobody_answered answered) i true ≡ false
none_answered [] i lt = absurd (omega arith)
none_answered (a ∷ rest) zero lt = refl
none_answered (a ∷ rest) (suc i) lt = none_answered rest i (omega arith)

pub nobody_yet : (s : State) (now : Stage) → IsShaped s
    → Answered s.mutators now s.presences (nobody_answered s.collector.answered)
nobody_yet s now range i lt h has = absurd (
    let none = none_answered s.collector.answered i
    (subst (λ n. i < n) (sym range.mutators_fit.answered_fit) lt) in cc)

-- outside the sweep live cells are the same
pub lives_on : (s : State) (later : Control) (sweep : Sweeping) → IsConsistent s
    → same_stage s.control.stage stage.Sweep ≡ false
    → same_stage later.stage stage.Sweep ≡ false
    → LiveFacts (live s.colours later sweep) s.rows s.owns s.collector.scan
lives_on s later sweep k now after = live_moves (live s.colours s.control s.collector.sweep)
    (live s.colours later sweep) s.rows s.owns s.collector.scan
    (λ c. live_outside s.colours later sweep c after
    ∙ sym (live_outside s.colours s.control s.collector.sweep c now)) (live_facts s k)

-- outside the sweep no cell is worked on
pub fresh_outside : (cells p : ℕ) (sweep : Sweeping) (now : Stage) → StageFits cells p sweep now
    → same_stage now stage.Sweep ≡ false
    → sweep ≡ sweeping.Fresh
fresh_outside cells p sweep stage.Idle fits h = fits.1
fresh_outside cells p sweep stage.Sync1 fits h = fits.1
fresh_outside cells p sweep stage.Clear fits h = fits.1
fresh_outside cells p sweep stage.Sync2 fits h = fits.1
fresh_outside cells p sweep stage.Trace fits h = fits.1
fresh_outside cells p sweep stage.Sweep fits h = absurd cc

-- no mutator's marks count
pub no_marks : (s : State) (later : Stage) (own : Status) → IsSettled s
    → requested_of s.control.stage ≡ own → IsShaped s
    → marks_count later own ≡ false → Marks later s.presences s.owns s.colours
no_marks s later own settled is range none i m = elim (cases_lt i s.mutators) [
  | inl lt ↦ absurd (let never : marks_count later (presence_of s i).status ≡ false
      = ap (marks_count later) (settled i lt ∙ is) ∙ none in cc)
  | inr past ↦ subst (λ o. All (MarkStands s.colours) o.held) (sym (nobody s i range past))
      (All-nil (MarkStands s.colours))
]

-- everybody's status fits the next stage
pub statuses_on : (s : State) (later : Stage) → IsSettled s
    → status_fits later (requested_of s.control.stage) ≡ true
    → Statuses s.mutators later s.presences
statuses_on s later settled fits i lt = subst (λ own. status_fits later own ≡ true)
    (sym (settled i lt)) fits

-- no scan goes on but while the collector traces
pub no_scan : (s : State) → IsConsistent s → s.control.stage ≢ stage.Trace → (x : Scanning)
    → s.collector.scan ≢ Some x
no_scan s k other x e = other (k.tracing.scans x e).traces

-- Where the stage is neither a cleared one nor Trace and nothing is scanned, tracing owes nothing.
pub not_traced : (s : State) (now : Stage) (collector : Collector)
    → ((c : ℕ) → is_cleared now collector.cursor c ≡ false)
    → anchor_counts now collector.anchor_marked ≡ false → now ≢ stage.Trace
    → ((x : Scanning) → collector.scan ≢ Some x)
    → TracingConsistent now s.presences s.owns s.colours s.rows collector.answered
    collector.anchor_marked collector.cursor collector.clean collector.scan
not_traced s now collector uncleared uncounted other rests = record {
  cleared = (λ c h. absurd (let no = uncleared c in cc));
  anchor_marked = (λ h. absurd cc);
  traced = (λ e. absurd (other e));
  clean_pass = (λ e. absurd (other e));
  pass_waits = (λ e. absurd (other e));
  scans = (λ x e. absurd (rests x e));
}

-- Outside the sweep it owes nothing either.
pub not_swept : (s : State) (control : Control) (sweep : Sweeping)
    → same_stage control.stage stage.Sweep ≡ false
    → sweep ≡ sweeping.Fresh → SweepConsistent control s.colours s.rows sweep
not_swept s control sweep outside fresh = record {
  unswept = (λ c far. absurd (let never = not_sweeping control sweep c outside in cc));
  wipes = (λ n e. absurd cc);
  found_black = (λ e. absurd cc);
}

-- Post(Sync1).

pub post_sync1 : (s : State) → IsShaped s → IsConsistent s → can s (event.Post stage.Sync1) ≡ true
    → IsConsistent (after s (event.Post stage.Sync1))
post_sync1 s range k h =
    let now = (post_sync1_needs s h).now in
    let outside = other_stage s.control.stage stage.Idle now refl in
    let settled = settled_quiet s k (ap is_handshake now) in
    let asks : requested_of s.control.stage ≡ status.Async = ap requested_of now in
    let later : Control = record s.control { stage = stage.Sync1 } in
    let fresh = fresh_outside s.cells s.control.position s.collector.sweep s.control.stage
    range.control_fits.stage_fits outside in
    let other : s.control.stage ≢ stage.Trace = (λ e. cc) in
    post_kept s later
    (record s.collector { answered = nobody_answered s.collector.answered }) k record {
      statuses = statuses_on s stage.Sync1 settled (ap (status_fits stage.Sync1) asks);
      answered = nobody_yet s stage.Sync1 range;
      modes = modes_on s later range k settled
          (λ looked f. subst (λ own. mode_fits own looked stage.Sync1 ≡ true) (sym asks)
          (idle_to_sync1 looked
          (subst (λ x. async_fits looked x ≡ true) now
          (subst (λ own. mode_fits own looked s.control.stage ≡ true) asks f))))
          (λ m stale e e2. absurd cc);
      marks = no_marks s stage.Sync1 status.Async settled asks range refl;
      lives = lives_on s later s.collector.sweep k outside refl;
      tracing = not_traced s stage.Sync1 (posted s.collector stage.Sync1)
          (λ c. refl) refl (λ e. cc) (λ x e. no_scan s k other x e);
      sweep = not_swept s later s.collector.sweep refl fresh;
    }

-- Post(Clear).

pub post_clear : (s : State) → IsShaped s → IsConsistent s → can s (event.Post stage.Clear) ≡ true
    → IsConsistent (after s (event.Post stage.Clear))
post_clear s range k h =
    let needs = post_clear_needs s h in
    let now = needs.now in
    let outside = other_stage s.control.stage stage.Sync1 now refl in
    let settled = settled_by_answers s k (ap is_handshake now) needs.answered in
    let asks : requested_of s.control.stage ≡ status.Sync1 = ap requested_of now in
    let later : Control = record s.control { stage = stage.Clear } in
    let fresh = fresh_outside s.cells s.control.position s.collector.sweep s.control.stage
    range.control_fits.stage_fits outside in
    let other : s.control.stage ≢ stage.Trace = (λ e. cc) in
    post_kept s later (record s.collector { cursor = 0 }) k record {
      statuses = statuses_on s stage.Clear settled (ap (status_fits stage.Clear) asks);
      answered = (λ i lt e. absurd cc);
      modes = modes_on s later range k settled
          (λ looked f. subst (λ own. mode_fits own looked stage.Clear ≡ true) (sym asks)
          (sync1_to_clear looked
          (subst (λ x. sync1_fits looked x ≡ true) now
          (subst (λ own. mode_fits own looked s.control.stage ≡ true) asks f))))
          (λ m stale e e2. absurd cc);
      marks = no_marks s stage.Clear status.Sync1 settled asks range refl;
      lives = lives_on s later s.collector.sweep k outside refl;
      tracing = record {
        cleared = (λ c e. absurd (let lt = ltb-true c 0 e in omega arith));
        anchor_marked = (λ e. absurd cc);
        traced = (λ e. absurd cc);
        clean_pass = (λ e. absurd cc);
        pass_waits = (λ e. absurd cc);
        scans = (λ x e. absurd (no_scan s k other x e));
      };
      sweep = not_swept s later s.collector.sweep refl fresh;
    }

-- Post(Sync2).

pub post_sync2 : (s : State) → IsShaped s → IsConsistent s → can s (event.Post stage.Sync2) ≡ true
    → IsConsistent (after s (event.Post stage.Sync2))
post_sync2 s range k h =
    let needs = post_sync2_needs s h in
    let now = needs.now in
    let ended = needs.end in
    let outside = other_stage s.control.stage stage.Clear now refl in
    let settled = settled_quiet s k (ap is_handshake now) in
    let asks : requested_of s.control.stage ≡ status.Sync1 = ap requested_of now in
    let later : Control = record s.control { stage = stage.Sync2 } in
    let fresh = fresh_outside s.cells s.control.position s.collector.sweep s.control.stage
    range.control_fits.stage_fits outside in
    let other : s.control.stage ≢ stage.Trace = (λ e. cc) in
    post_kept s later
    (record s.collector
    { answered = nobody_answered s.collector.answered; anchor_marked = false }) k record {
      statuses = statuses_on s stage.Sync2 settled (ap (status_fits stage.Sync2) asks);
      answered = nobody_yet s stage.Sync2 range;
      modes = modes_on s later range k settled
          (λ looked f. subst (λ own. mode_fits own looked stage.Sync2 ≡ true) (sym asks)
          (clear_to_sync2 looked
          (subst (λ x. sync1_fits looked x ≡ true) now
          (subst (λ own. mode_fits own looked s.control.stage ≡ true) asks f))))
          (λ m stale e e2. absurd cc);
      marks = no_marks s stage.Sync2 status.Sync1 settled asks range refl;
      lives = lives_on s later s.collector.sweep k outside refl;
      tracing = record {
        cleared = (λ c e. elim (cases_lt c s.cells) [
          | inl lt ↦ k.tracing.cleared c
              (subst (λ x. is_cleared x s.collector.cursor c ≡ true) (sym now)
              (lt-ltb c s.collector.cursor (omega arith)))
          | inr past ↦ λ black. absurd (
              let fit = range.cells_fit.colours_fit in
              let blue : colour_of s c
              ≡ colour.Blue = get_or_past s.colours c colour.Blue (omega arith) in cc)
        ]);
        anchor_marked = (λ e. absurd cc);
        traced = (λ e. absurd cc);
        clean_pass = (λ e. absurd cc);
        pass_waits = (λ e. absurd cc);
        scans = (λ x e. absurd (no_scan s k other x e));
      };
      sweep = not_swept s later s.collector.sweep refl fresh;
    }

-- Post(Trace).

pub sync2_looked : (looked : Stage) → sync2_fits looked stage.Sync2 ≡ true → looked ≡ stage.Sync2
sync2_looked stage.Sync2 h = refl
sync2_looked _ h = absurd cc

-- in Sync2 a mutator in sync2 has a mode of this stage, which lets no store
pub no_late_store : (own : Status) (mode : Option Control) (now : Control) → own ≡ status.Sync2
    → now.stage ≡ stage.Sync2 → IsStaleMode own mode now → lets_store own mode ≡ true → ⊥
no_late_store own None now sync2 is stale h = cc
no_late_store status.Async (Some m) now sync2 is stale h = cc
no_late_store status.Sync1 (Some m) now sync2 is stale h = cc
no_late_store status.Sync2 (Some m) now sync2 is stale h =
    let same : m.stage ≡ stage.Sync2
    = sync2_looked m.stage (subst (λ x. sync2_fits m.stage x ≡ true) is stale.fits) in
    let never : false ≡ true
    = subst (λ x. not (same_status status.Sync2 status.Sync2 && same_stage x stage.Sync2) ≡ true)
    same h in cc

-- so no write is pending when tracing begins
pub none_pending : (s : State) → IsShaped s → IsConsistent s
    → can s (event.Post stage.Trace) ≡ true → (i : ℕ) → (own_of s i).pending ≡ None
none_pending s range k h i =
    let needs = post_trace_needs s h in
    let now = needs.now in
    let settled = settled_by_answers s k (ap is_handshake now) needs.answered in
    elim (own_of s i).pending
    as (λ o. (own_of s i).pending ≡ o → (own_of s i).pending ≡ None) [
      | None ↦ λ e. e
      | Some write ↦ λ e. elim (cases_lt i s.mutators) [
        | inl lt ↦ absurd (no_late_store (presence_of s i).status (own_of s i).mode s.control
            (settled i lt ∙ ap requested_of now) now (k.mutators.modes i)
            (k.cells.pendings i write e).lets)
        | inr past ↦ ap (λ o. o.pending) (nobody s i range past)
      ]
    ] refl

pub post_trace : (s : State) → IsShaped s → IsConsistent s → can s (event.Post stage.Trace) ≡ true
    → IsConsistent (after s (event.Post stage.Trace))
post_trace s range k h =
    let needs = post_trace_needs s h in
    let now = needs.now in
    let outside = other_stage s.control.stage stage.Sync2 now refl in
    let settled = settled_by_answers s k (ap is_handshake now) needs.answered in
    let asks : requested_of s.control.stage ≡ status.Sync2 = ap requested_of now in
    let later : Control = record s.control { stage = stage.Trace } in
    let fresh = fresh_outside s.cells s.control.position s.collector.sweep s.control.stage
    range.control_fits.stage_fits outside in
    let other : s.control.stage ≢ stage.Trace = (λ e. cc) in
    post_kept s later
    (record s.collector
    { answered = nobody_answered s.collector.answered; cursor = 0; clean = true }) k record {
      statuses = statuses_on s stage.Trace settled (ap (status_fits stage.Trace) asks);
      answered = nobody_yet s stage.Trace range;
      modes = modes_on s later range k settled
          (λ looked f. subst (λ own. mode_fits own looked stage.Trace ≡ true) (sym asks)
          (sync2_to_trace looked
          (subst (λ x. sync2_fits looked x ≡ true) now
          (subst (λ own. mode_fits own looked s.control.stage ≡ true) asks f))))
          (λ m stale e e2. absurd cc);
      marks = (λ i m. elim (cases_lt i s.mutators) [
        | inl lt ↦ k.mutators.marks i
            (ap (marks_count s.control.stage) (settled i lt ∙ asks)
            ∙ ap (λ x. marks_count x status.Sync2) now)
        | inr past ↦ subst (λ o. All (MarkStands s.colours) o.held) (sym (nobody s i range past))
            (All-nil (MarkStands s.colours))
      ]);
      lives = lives_on s later s.collector.sweep k outside refl;
      tracing = record {
        cleared = (λ c e. absurd cc);
        anchor_marked = (λ _. k.tracing.anchor_marked
            (ap (λ x. anchor_counts x s.collector.anchor_marked) now ∙ needs.anchor));
        traced = (λ _ set cut. record {
          black = (λ c d f black n. absurd
              (k.tracing.cleared c (ap (λ x. is_cleared x s.collector.cursor c) now) black));
          scanned = (λ x d f e lt n. absurd (no_scan s k other x e));
          held = (λ i async. elim (cases_lt i s.mutators) [
            | inl lt ↦ absurd (let sync2 = settled i lt ∙ asks in cc)
            | inr past ↦ subst (λ o. All (λ p. set p.cell ≡ false) o.held)
                (sym (nobody s i range past)) (All-nil (λ p. set p.cell ≡ false))
          ]);
          doubtful = (λ c d f is n. absurd (no_doubt (own_of s is.mutator) c f (field.Cell d)
              (none_pending s range k h is.mutator) is.doubt));
        });
        clean_pass = (λ _ _ c gray. (c, omega arith, gray));
        pass_waits = (λ _ _. refl);
        scans = (λ x e. absurd (no_scan s k other x e));
      };
      sweep = not_swept s later s.collector.sweep refl fresh;
    }

-- Post(Sweep).

-- a colour that is live, not white and not gray is black
pub only_black : (x : Colour) (ahead : Bool) → is_live x ahead ≡ true → x ≢ colour.White
    → x ≢ colour.Gray → x ≡ colour.Black
only_black colour.Blue ahead l w g = absurd cc
only_black colour.White ahead l w g = absurd (w refl)
only_black colour.Gray ahead l w g = absurd (g refl)
only_black colour.Black ahead l w g = refl

-- what is not gray and stays live through the whole sweep is black
pub black_alone : (x : Colour) → is_live x true ≡ true → x ≢ colour.Gray → x ≡ colour.Black
black_alone colour.Gray l g = absurd (g refl)
black_alone colour.Black l g = refl
black_alone _ l g = absurd cc

-- at its start the sweep has every cell ahead
pub all_ahead : (control : Control) (c : ℕ) → control.stage ≡ stage.Sweep → control.position ≡ 0
    → unswept control sweeping.Fresh c ≡ true
all_ahead control c now start =
    and_from (same_stage control.stage stage.Sweep)
    (nat_lt control.position c || ((c == control.position) && true))
    (ap (λ x. same_stage x stage.Sweep) now)
    (elim (cases_lt control.position c) [
      | inl lt ↦ or_here (nat_lt control.position c) _ (lt-ltb control.position c lt)
      | inr ge ↦ or_later (nat_lt control.position c) _
          (and_from (c == control.position) true (eq-eqb c control.position (omega arith)) refl)
    ])

-- a clean pass that has come to the end leaves no cell gray
pub no_gray_at_end : (s : State) → IsShaped s → IsConsistent s
    → can s (event.Post stage.Sweep) ≡ true
    → (c : ℕ) → colour_of s c ≢ colour.Gray
no_gray_at_end s range k h c gray =
    let needs = post_sweep_needs s h in
    let now = needs.now in
    let ended = needs.end in
    let r = k.tracing.clean_pass now needs.clean c gray in
    let le = r.1 in
    let fit = range.cells_fit.colours_fit in
    let blue : colour_of s r.0
    ≡ colour.Blue = get_or_past s.colours r.0 colour.Blue (omega arith) in
    let is_gray_there = r.2 in cc

pub post_sweep : (s : State) → IsShaped s → IsConsistent s → can s (event.Post stage.Sweep) ≡ true
    → IsConsistent (after s (event.Post stage.Sweep))
post_sweep s range k h =
    let needs = post_sweep_needs s h in
    let now = needs.now in
    let rests = no_scan_is s.collector.scan needs.no_scan in
    let settled = settled_by_answers s k (ap is_handshake now) needs.answered in
    let asks : requested_of s.control.stage ≡ status.Async = ap requested_of now in
    let later : Control = record s.control { stage = stage.Sweep; position = 0 } in
    let no_gray : (c : ℕ) → colour_of s c ≢ colour.Gray = no_gray_at_end s range k h in
    let white : ℕ → Bool = (λ c. is_white (colour_of s c)) in
    let due = k.tracing.traced now white (white_cut_off s k no_gray) in
    let not_white : (c : ℕ) → white c ≡ false → colour_of s c ≢ colour.White
    = (λ c out e. absurd (let in_set = white_is_white (colour_of s c) e in cc)) in
    let live_on : (c : ℕ) → colour_of s c ≡ colour.Black
    → live s.colours later sweeping.Fresh c ≡ true
    = (λ c black. ap (λ x. is_live x (unswept later sweeping.Fresh c)) black) in
    let black_of : (c : ℕ) → live s.colours s.control s.collector.sweep c ≡ true
    → colour_of s c ≢ colour.White → colour_of s c ≡ colour.Black
    = (λ c alive dark. only_black (colour_of s c) (unswept s.control s.collector.sweep c) alive dark
    (no_gray c)) in
    let black_if : (c : ℕ) → live s.colours later sweeping.Fresh c ≡ true
    → colour_of s c ≡ colour.Black
    = (λ c alive. black_alone (colour_of s c)
    (subst (λ a. is_live (colour_of s c) a ≡ true) (all_ahead later c refl refl) alive)
    (no_gray c)) in
    post_kept s later (record s.collector { sweep = sweeping.Fresh }) k record {
      statuses = statuses_on s stage.Sweep settled (ap (status_fits stage.Sweep) asks);
      answered = (λ i lt e. absurd cc);
      modes = modes_on s later range k settled
          (λ looked f. subst (λ own. mode_fits own looked stage.Sweep ≡ true) (sym asks)
          (trace_to_sweep looked
          (subst (λ x. async_fits looked x ≡ true) now
          (subst (λ own. mode_fits own looked s.control.stage ≡ true) asks f))))
          (λ m stale e e2. absurd (
          let f : async_fits m.stage s.control.stage
          ≡ true = subst
          (λ own. mode_fits own m.stage s.control.stage ≡ true) asks stale.fits in
          let f2 : async_fits stage.Sweep stage.Trace ≡ true
          = subst (λ x. async_fits x stage.Trace ≡ true) e
          (subst (λ x. async_fits m.stage x ≡ true) now f) in cc));
      marks = no_marks s stage.Sweep status.Async settled asks range refl;
      lives = record {
        anchor = live_on 0
            (black_of 0 k.cells.anchor_live
            (k.tracing.anchor_marked (ap (λ x. anchor_counts x s.collector.anchor_marked) now)));
        held = (λ i. all_from_held (λ c. live s.colours later sweeping.Fresh c ≡ true) (held_of s i)
            (λ c held. elim (cases_lt i s.mutators) [
              | inl lt ↦ live_on c (black_of c
                  (all_held (λ d. live s.colours s.control s.collector.sweep d ≡ true) (held_of s i)
                  c (k.cells.held_live i) held)
                  (not_white c (all_held (λ d. white d ≡ false) (held_of s i) c
                  (due.held i (settled i lt ∙ asks)) held)))
              | inr past ↦ absurd
                  (let none : holds (held_of s i) c
                  ≡ false = ap (λ o. holds o.held c) (nobody s i range past) in cc)
            ]));
        child = (λ c e. absurd
            (let none : child_in s.collector.scan ≡ None = ap child_in rests in cc));
        names = (λ c d f alive n.
            let black = black_if c alive in
            let was : live s.colours s.control s.collector.sweep c ≡ true
            = ap (λ x. is_live x (unswept s.control s.collector.sweep c)) black in
            let r = k.cells.names_live c d f was n in
            (live_on d (black_of d r.0 (not_white d (due.black c d f black n))), r.1));
      };
      tracing = not_traced s stage.Sweep (posted s.collector stage.Sweep)
          (λ c. refl) refl (λ e. cc) (λ x e. cc);
      sweep = record {
        unswept = (λ c far. no_gray c);
        wipes = (λ n e. absurd cc);
        found_black = (λ e. absurd cc);
      };
    }

-- Post(Idle).

pub fresh_at_end : (cells p : ℕ) (sweep : Sweeping) → SweepFits cells p sweep → p ≡ cells
    → sweep ≡ sweeping.Fresh
fresh_at_end cells p sweeping.Fresh fits e = refl
fresh_at_end cells p (sweeping.Wiping n) fits e = absurd (let lt = fits.0 in omega arith)
fresh_at_end cells p sweeping.BlackFound fits e = absurd (omega arith)
fresh_at_end cells p sweeping.Done fits e = absurd (omega arith)

-- where the position is at the end no cell that there is is unswept
pub none_ahead : (control : Control) (sweep : Sweeping) (c : ℕ) → c < control.position
    → unswept control sweep c ≡ false
none_ahead control sweep c lt =
    elim (unswept control sweep c)
    as (λ b. unswept control sweep c ≡ b → unswept control sweep c ≡ false) [
      | true ↦ λ h. absurd (let r = unswept_where control sweep c h in let le = r.1 in omega arith)
      | false ↦ λ h. h
    ] refl

pub post_idle : (s : State) → IsShaped s → IsConsistent s → can s (event.Post stage.Idle) ≡ true
    → IsConsistent (after s (event.Post stage.Idle))
post_idle s range k h =
    let needs = post_idle_needs s h in
    let now = needs.now in
    let ended = needs.end in
    let settled = settled_quiet s k (ap is_handshake now) in
    let asks : requested_of s.control.stage ≡ status.Async = ap requested_of now in
    let later : Control = record s.control
    { stage = stage.Idle; position = 0; cycles = s.control.cycles + 1 } in
    let fits : SweepFits s.cells s.control.position s.collector.sweep
    = subst (λ x. StageFits s.cells s.control.position s.collector.sweep x) now
    range.control_fits.stage_fits in
    let fresh = fresh_at_end s.cells s.control.position s.collector.sweep fits ended in
    let other : s.control.stage ≢ stage.Trace = (λ e. cc) in
    let same : (c : ℕ)
    → live s.colours later s.collector.sweep c ≡ live s.colours s.control s.collector.sweep c
    = (λ c. live_outside s.colours later s.collector.sweep c refl ∙ elim (cases_lt c s.cells) [
      | inl lt ↦ sym
          (ap (is_live (colour_of s c)) (none_ahead s.control s.collector.sweep c (omega arith)))
      | inr past ↦
          let fit = range.cells_fit.colours_fit in
          let blue : colour_of s c
          ≡ colour.Blue = get_or_past s.colours c colour.Blue (omega arith) in
          ap (λ x. is_live x false) blue
          ∙ sym (ap (λ x. is_live x (unswept s.control s.collector.sweep c)) blue)
    ]) in
    post_kept s later s.collector k record {
      statuses = statuses_on s stage.Idle settled (ap (status_fits stage.Idle) asks);
      answered = (λ i lt e. absurd cc);
      modes = modes_on s later range k settled
          (λ looked f. subst (λ own. mode_fits own looked stage.Idle ≡ true) (sym asks)
          (sweep_to_idle looked
          (subst (λ x. async_fits looked x ≡ true) now
          (subst (λ own. mode_fits own looked s.control.stage ≡ true) asks f))))
          (λ m stale e e2. absurd cc);
      marks = no_marks s stage.Idle status.Async settled asks range refl;
      lives = live_moves (live s.colours s.control s.collector.sweep)
          (live s.colours later s.collector.sweep) s.rows s.owns s.collector.scan
          same (live_facts s k);
      tracing = not_traced s stage.Idle (posted s.collector stage.Idle)
          (λ c. refl) refl (λ e. cc) (λ x e. no_scan s k other x e);
      sweep = not_swept s later s.collector.sweep refl fresh;
    }

pub post_keeps : (s : State) (target : Stage) → IsShaped s → IsConsistent s
    → can s (event.Post target) ≡ true
    → IsConsistent (after s (event.Post target))
post_keeps s stage.Idle range k h = post_idle s range k h
post_keeps s stage.Sync1 range k h = post_sync1 s range k h
post_keeps s stage.Clear range k h = post_clear s range k h
post_keeps s stage.Sync2 range k h = post_sync2 s range k h
post_keeps s stage.Trace range k h = post_trace s range k h
post_keeps s stage.Sweep range k h = post_sweep s range k h
