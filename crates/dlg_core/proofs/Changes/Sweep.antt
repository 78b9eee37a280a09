-- A step of the sweep. Who is live stays so, and in the sweep all mutators are async, so nothing is
-- owed for marks, cleared cells or tracing.
use Rattle.std.proofs.Common.{◌≡◌, ◌≢◌, ◌==◌, ◌&&◌, ◌||◌, ◌⊎◌, inl, inr, ℕ, Bool, true, false, not}
use Rattle.std.proofs.Common.{nat_lt, List, ◌≤◌, arith, refl, subst, ◌∙◌, ap, length, sym, ◌<◌}
use Rattle.std.proofs.lemmas.Bool.{ltb-true, eqb-true}
use Rattle.cell_words.specs.declared.colours.Colour.{Colour}
use Rattle.cell_words.specs.declared.controls.Control.{Control}
use Rattle.cell_words.specs.declared.controls.Stage.TheVariants as stage
use Rattle.cell_words.specs.declared.fields.Field.{Field}
use Rattle.cell_words.specs.declared.fields.Field.TheVariants as field
use Rattle.cell_words.specs.declared.presences.Status.{Status}
use Rattle.cell_words.specs.declared.presences.Status.TheVariants as status
use Rattle.core_machine.specs.declared.progress.Sweeping.{Sweeping}
use Rattle.core_machine.specs.declared.progress.Sweeping.TheVariants as sweeping
use Rattle.core_machine.specs.State.{State, field_in, presence_of, own_in}
use Rattle.core_machine.specs.Sweep.{is_done}
use Rattle.core_machine.specs.Words.{is_raw_kind, same_stage}
use Rattle.core_machine.specs.InRange.{IsShaped, StageFits, SweepFits}
use Rattle.dlg_core.specs.Consistent.{IsConsistent, AnchorIsBox, KindsAreKinds, BlueIsNull}
use Rattle.dlg_core.specs.Consistent.{RawIsHeldOnce, UnsweptIsNotGray, Wipes, FoundIsBlack}
use Rattle.dlg_core.specs.Doubt.{Pendings}
use Rattle.dlg_core.specs.Facts.{live, unswept, status_fits, marks_count, is_cleared, anchor_counts}
use Rattle.dlg_core.proofs.Changes.Live.{live_moves, status_known}
use Rattle.dlg_core.proofs.Changes.Status.{stale_on}
use Rattle.dlg_core.proofs.Changes.Shade.{sweeps}

-- the control with another position
abbrev pub at_position : Control → ℕ → Control
at_position control p = record control { position = p }

-- a state of the same sweep
abbrev pub swept_on : State → List Colour → List (List Field) → ℕ → Sweeping → List ℕ → ℕ → State
swept_on s colours rows p sweep times number = record s {
  colours = colours;
  rows = rows;
  control = at_position s.control p;
  collector = record s.collector { sweep = sweep; times_freed = times; number_freed = number };
}

-- what a step of the sweep owes
pub record SweepStep (s : State) (colours : List Colour) (rows : List (List Field)) (p : ℕ)
    (sweep : Sweeping) : Type 0 where
  pub now : s.control.stage ≡ stage.Sweep
  pub on : s.control.position ≤ p
  pub anchor_box : AnchorIsBox rows
  pub kinds : KindsAreKinds rows
  pub blue_null : BlueIsNull colours rows
  pub same_live : (c : ℕ)
      → live colours (at_position s.control p) sweep c
      ≡ live s.colours s.control s.collector.sweep c
  pub names : (c d f : ℕ) → live s.colours s.control s.collector.sweep c ≡ true
      → field_in rows c f ≡ field.Cell d
      → (live s.colours s.control s.collector.sweep d ≡ true)
      × (is_raw_kind (field_in rows d 5) ≡ false)
  pub raw_once : RawIsHeldOnce rows s.owns
  pub pendings : Pendings s.presences s.owns rows
  pub unswept : UnsweptIsNotGray colours (at_position s.control p) sweep
  pub wipes : Wipes colours rows p sweep
  pub found_black : FoundIsBlack colours p sweep

-- in the sweep everybody is async
pub swept_status : (own : Status) → (status_fits stage.Sweep own ≡ true) ⊎ (own ≡ status.Async)
    → own ≡ status.Async
swept_status status.Async h = refl
swept_status status.Sync1 h = elim h [ inl e ↦ absurd cc | inr e ↦ absurd cc ]
swept_status status.Sync2 h = elim h [ inl e ↦ absurd cc | inr e ↦ absurd cc ]

pub async_in_sweep : (s : State) (i : ℕ) → IsShaped s → IsConsistent s
    → s.control.stage ≡ stage.Sweep
    → (presence_of s i).status ≡ status.Async
async_in_sweep s i range k now = swept_status (presence_of s i).status
    (subst (λ x. (status_fits x (presence_of s i).status ≡ true)
    ⊎ ((presence_of s i).status ≡ status.Async)) now (status_known s i range k))

pub sweep_kept : (s : State) (colours : List Colour) (rows : List (List Field)) (p : ℕ)
    (sweep : Sweeping) (times : List ℕ) (number : ℕ)
    → IsShaped s → IsConsistent s → SweepStep s colours rows p sweep
    → IsConsistent (swept_on s colours rows p sweep times number)
sweep_kept s colours rows p sweep times number range k step =
    let now = step.now in
    let lives = live_moves (live s.colours s.control s.collector.sweep)
    (live colours (at_position s.control p) sweep) rows s.owns s.collector.scan
    step.same_live
    record {
      anchor = k.cells.anchor_live;
      held = k.cells.held_live;
      child = k.cells.child_live;
      names = step.names;
    } in
    let async : (i : ℕ)
    → (presence_of s i).status ≡ status.Async = (λ i. async_in_sweep s i range k now) in
    let not_trace : s.control.stage ≡ stage.Trace → ⊥ = (λ e. cc) in
    record {
      mutators = record {
        statuses = k.mutators.statuses;
        answered = k.mutators.answered;
        modes = (λ i. stale_on (presence_of s i).status (own_in s.owns i).mode s.control
            (at_position s.control p) refl
            (λ _. step.on) (k.mutators.modes i));
        out = k.mutators.out;
        marks = (λ i m. absurd (
            let never : marks_count s.control.stage (presence_of s i).status ≡ false
            = ap (λ x. marks_count x (presence_of s i).status) now
            ∙ ap (marks_count stage.Sweep) (async i) in cc));
      };
      cells = record {
        anchor_box = step.anchor_box;
        kinds = step.kinds;
        blue_null = step.blue_null;
        anchor_live = lives.anchor;
        held_live = lives.held;
        child_live = lives.child;
        names_live = lives.names;
        raw_once = step.raw_once;
        raw_not_black = (λ i sync2. absurd (let a = async i in cc));
        pendings = step.pendings;
      };
      tracing = record {
        cleared = (λ c h. absurd (let never : is_cleared stage.Sweep s.collector.cursor c ≡ true
            = subst (λ x. is_cleared x s.collector.cursor c ≡ true) now h in cc));
        anchor_marked = (λ h. absurd
            (let never : anchor_counts stage.Sweep s.collector.anchor_marked ≡ true
            = subst (λ x. anchor_counts x s.collector.anchor_marked ≡ true) now h in cc));
        traced = (λ e. absurd (not_trace e));
        clean_pass = (λ e. absurd (not_trace e));
        pass_waits = (λ e. absurd (not_trace e));
        scans = (λ x e. absurd (not_trace (k.tracing.scans x e).traces));
      };
      sweep = record {
        unswept = step.unswept;
        wipes = step.wipes;
        found_black = step.found_black;
      };
    }

-- Which cells are unswept.

-- the same of two steps on one cell that is not done
pub same_unswept : (control : Control) (one other : Sweeping) (c : ℕ) → is_done one ≡ is_done other
    → unswept control one c ≡ unswept control other c
same_unswept control one other c e =
    ap (λ b. same_stage control.stage stage.Sweep &&
    (nat_lt control.position c || ((c == control.position) && not b))) e

-- elsewhere than at the position
pub unswept_elsewhere : (control : Control) (one other : Sweeping) (c : ℕ) → c ≢ control.position
    → unswept control one c ≡ unswept control other c
unswept_elsewhere control one other c ne =
    elim (c == control.position) as (λ b. (c == control.position) ≡ b
    → (same_stage control.stage stage.Sweep &&
    (nat_lt control.position c || (b && not (is_done one))))
    ≡ (same_stage control.stage stage.Sweep &&
    (nat_lt control.position c || (b && not (is_done other))))) [
      | true ↦ λ e. absurd (ne (eqb-true c control.position e))
      | false ↦ λ e. refl
    ] refl

pub both_false : (a b : Bool) → (a && (false || (b && false))) ≡ false
both_false true true = refl
both_false true false = refl
both_false false true = refl
both_false false false = refl

-- a cell is swept once it is done
pub done_swept : (control : Control) → unswept control sweeping.Done control.position ≡ false
done_swept control =
    elim (nat_lt control.position control.position)
    as (λ b. nat_lt control.position control.position ≡ b
    → (same_stage control.stage stage.Sweep &&
    (b || ((control.position == control.position) && false))) ≡ false) [
      | true ↦ λ e. absurd (let lt = ltb-true control.position control.position e in omega arith)
      | false ↦ λ e. both_false (same_stage control.stage stage.Sweep)
          (control.position == control.position)
    ] refl

-- the cell is worked on in the sweep
pub busy_now : (s : State) (sweep : Sweeping) → IsShaped s → s.collector.sweep ≡ sweep
    → sweep ≢ sweeping.Fresh → s.control.stage ≡ stage.Sweep
busy_now s sweep range is busy =
    sweeps s.cells s.control.position s.collector.sweep s.control.stage
    range.control_fits.stage_fits (λ e. busy (sym is ∙ e))

pub busy_below : (cells p : ℕ) (sweep : Sweeping) → SweepFits cells p sweep → sweep ≢ sweeping.Fresh
    → p < cells
busy_below cells p sweeping.Fresh fits busy = absurd (busy refl)
busy_below cells p (sweeping.Wiping k) fits busy = fits.0
busy_below cells p sweeping.BlackFound fits busy = fits
busy_below cells p sweeping.Done fits busy = fits

-- a cell that is worked on is one that there is
pub position_below : (s : State) (sweep : Sweeping) → IsShaped s → s.collector.sweep ≡ sweep
    → sweep ≢ sweeping.Fresh
    → s.control.position < length s.colours
position_below s sweep range is busy =
    let now = busy_now s sweep range is busy in
    let fits : StageFits s.cells s.control.position sweep stage.Sweep
    = subst (λ x. StageFits s.cells s.control.position sweep x) now
    (subst (λ w. StageFits s.cells s.control.position w s.control.stage) is
    range.control_fits.stage_fits) in
    let fit = range.cells_fit.colours_fit in
    let below = busy_below s.cells s.control.position sweep fits busy in
    omega arith
