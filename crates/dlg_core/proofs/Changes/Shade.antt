-- A live cell is shaded: white becomes gray, every other colour stays.
--
-- Live cells stay as they are, since a live white cell is none that the sweep will free. A set that
-- is cut off after it was cut off before: the cell is not in it and names nothing in it.
use Rattle.std.proofs.Common.{◌≡◌, ◌≢◌, ◌==◌, ◌&&◌, ◌⊎◌, inl, inr, ℕ, Bool, true, false, not}
use Rattle.std.proofs.Common.{nat_lt, Option, Some, None, refl, sym, subst, ap, eq-eqb, length, ◌∙◌}
use Rattle.std.specs.Prelude.{slice_set}
use Rattle.std.proofs.lemmas.Bool.{eqb-true, and_from, cases_lt}
use Rattle.std.proofs.lemmas.List.Elements.{All-weaker}
use Rattle.cell_words.specs.declared.colours.Colour.{Colour}
use Rattle.cell_words.specs.declared.colours.Colour.TheVariants as colour
use Rattle.cell_words.specs.declared.controls.Control.{Control}
use Rattle.cell_words.specs.declared.controls.Stage.{Stage}
use Rattle.cell_words.specs.declared.controls.Stage.TheVariants as stage
use Rattle.core_machine.specs.declared.progress.Scanning.{Scanning}
use Rattle.core_machine.specs.declared.progress.Sweeping.{Sweeping}
use Rattle.core_machine.specs.declared.progress.Sweeping.TheVariants as sweeping
use Rattle.core_machine.specs.State.{State, colour_of, own_in, colour_in}
use Rattle.core_machine.specs.Sweep.{is_done}
use Rattle.core_machine.specs.Words.{shaded, same_stage, cleared}
use Rattle.core_machine.specs.InRange.{IsShaped, StageFits}
use Rattle.dlg_core.specs.Consistent.{IsConsistent, CleanPass, IsCutOff, MarkStands, NoRawBlack}
use Rattle.dlg_core.specs.Facts.{is_live, live, unswept, is_open, scanned_count}
use Rattle.dlg_core.proofs.Each.{colour_each}
use Rattle.dlg_core.proofs.Truths.{or_later}
use Rattle.std.proofs.lemmas.List.{get_or-set_same, get_or_past, set_past}

-- the state with another colour of a cell
abbrev pub with_colour : State → ℕ → Colour → State
with_colour s c x = record s { colours = slice_set s.colours c x }

abbrev pub with_shade : State → ℕ → State
with_shade s c = with_colour s c (shaded (colour_of s c))

-- What shading leaves of a colour.

pub shaded_not_white : (x : Colour) → shaded x ≢ colour.White
shaded_not_white colour.Blue e = absurd cc
shaded_not_white colour.White e = absurd cc
shaded_not_white colour.Gray e = absurd cc
shaded_not_white colour.Black e = absurd cc

pub shaded_blue : (x : Colour) → shaded x ≡ colour.Blue → x ≡ colour.Blue
shaded_blue colour.Blue e = refl
shaded_blue _ e = absurd cc

pub shaded_black : (x : Colour) → shaded x ≡ colour.Black → x ≡ colour.Black
shaded_black colour.Black e = refl
shaded_black _ e = absurd cc

pub gray_shaded : (x : Colour) → x ≡ colour.Gray → shaded x ≡ colour.Gray
gray_shaded x e = ap shaded e

pub shaded_gray : (x : Colour) → shaded x ≡ colour.Gray → (x ≡ colour.White) ⊎ (x ≡ colour.Gray)
shaded_gray colour.White e = inl refl
shaded_gray colour.Gray e = inr refl
shaded_gray _ e = absurd cc

pub shaded_live : (x : Colour) (ahead : Bool) → is_live x ahead ≡ true
    → is_live (shaded x) ahead ≡ true
shaded_live colour.Blue ahead h = h
shaded_live colour.White ahead h = refl
shaded_live colour.Gray ahead h = h
shaded_live colour.Black ahead h = h

-- work on a cell goes on in the sweep alone
pub sweeps : (cells position : ℕ) (sweep : Sweeping) (now : Stage)
    → StageFits cells position sweep now
    → sweep ≢ sweeping.Fresh → now ≡ stage.Sweep
sweeps cells position sweep stage.Idle fits busy = absurd (busy fits.1)
sweeps cells position sweep stage.Sync1 fits busy = absurd (busy fits.1)
sweeps cells position sweep stage.Clear fits busy = absurd (busy fits.1)
sweeps cells position sweep stage.Sync2 fits busy = absurd (busy fits.1)
sweeps cells position sweep stage.Trace fits busy = absurd (busy fits.1)
sweeps cells position sweep stage.Sweep fits busy = refl

pub undone_test : (sweep : Sweeping) → sweep ≢ sweeping.Done → not (is_done sweep) ≡ true
undone_test sweeping.Fresh undone = refl
undone_test (sweeping.Wiping k) undone = refl
undone_test sweeping.BlackFound undone = refl
undone_test sweeping.Done undone = absurd (undone refl)

-- the cell at the position is unswept until it is done
pub here_unswept : (control : Control) (sweep : Sweeping) → control.stage ≡ stage.Sweep
    → sweep ≢ sweeping.Done
    → unswept control sweep control.position ≡ true
here_unswept control sweep now undone =
    and_from _ _ (subst (λ x. same_stage x stage.Sweep ≡ true) (sym now) refl)
    (or_later (nat_lt control.position control.position) _
    (and_from _ _ (eq-eqb control.position control.position refl) (undone_test sweep undone)))

-- so it is not live where it is white
pub wiped_not_live : (s : State) → IsShaped s → (k : ℕ) → s.collector.sweep ≡ sweeping.Wiping k
    → colour_of s s.control.position ≡ colour.White
    → live s.colours s.control s.collector.sweep s.control.position ≡ false
wiped_not_live s range k is white =
    let now : s.control.stage ≡ stage.Sweep
    = sweeps s.cells s.control.position s.collector.sweep s.control.stage
    range.control_fits.stage_fits (λ e. cc) in
    let ahead : unswept s.control s.collector.sweep s.control.position ≡ true
    = here_unswept s.control s.collector.sweep now (λ e. cc) in
    subst (λ x. is_live x (unswept s.control s.collector.sweep s.control.position) ≡ false)
    (sym white)
    (ap not ahead)

-- the fields of a cell that is not under scan are open
pub open_elsewhere : (scan : Option Scanning) (c f : ℕ)
    → ((x : Scanning) → scan ≡ Some x → c ≢ x.cell)
    → is_open scan c f ≡ true
open_elsewhere None c f other = refl
open_elsewhere (Some x) c f other =
    elim (c == x.cell) as (λ b. (c == x.cell) ≡ b → not (b && nat_lt f (scanned_count x)) ≡ true) [
      | true ↦ λ e. absurd (other x refl (eqb-true c x.cell e))
      | false ↦ λ e. refl
    ] refl

pub shade_kept : (s : State) (c : ℕ) → IsShaped s → IsConsistent s
    → live s.colours s.control s.collector.sweep c ≡ true
    → CleanPass s.control.stage s.collector.clean s.collector.cursor (with_shade s c).colours
    → IsConsistent (with_shade s c)
shade_kept s c range k alive clean =
    let t = with_shade s c in
    let x = colour_of s c in
    let not_white : (d : ℕ) → colour_of s d ≢ colour.White → colour_of t d ≢ colour.White
    = colour_each (λ d y. colour_of s d ≢ colour.White → y ≢ colour.White) s.colours c (shaded x)
    (λ _. shaded_not_white x) (λ d h. h) in
    let white_was : (d : ℕ) → colour_of t d ≡ colour.White → colour_of s d ≡ colour.White
    = colour_each (λ d y. y ≡ colour.White → colour_of s d ≡ colour.White) s.colours c (shaded x)
    (λ e. absurd (shaded_not_white x e)) (λ d h. h) in
    let white_is : (d : ℕ) → colour_of s d ≡ colour.White
    → (colour_of t d ≡ colour.White) ⊎ (colour_of t d ≡ colour.Gray)
    = colour_each
    (λ d y. colour_of s d ≡ colour.White → (y ≡ colour.White) ⊎ (y ≡ colour.Gray)) s.colours c
    (shaded x)
    (λ e. inr (ap shaded e)) (λ d h. inl h) in
    let gray_is : (d : ℕ) → colour_of s d ≡ colour.Gray → colour_of t d ≡ colour.Gray
    = colour_each (λ d y. colour_of s d ≡ colour.Gray → y ≡ colour.Gray) s.colours c (shaded x)
    (λ e. ap shaded e) (λ d h. h) in
    let black_was : (d : ℕ) → colour_of t d ≡ colour.Black → colour_of s d ≡ colour.Black
    = colour_each (λ d y. y ≡ colour.Black → colour_of s d ≡ colour.Black) s.colours c (shaded x)
    (shaded_black x) (λ d h. h) in
    let black_is : (d : ℕ) → colour_of s d ≡ colour.Black → colour_of t d ≡ colour.Black
    = colour_each (λ d y. colour_of s d ≡ colour.Black → y ≡ colour.Black) s.colours c (shaded x)
    (λ e. ap shaded e) (λ d h. h) in
    let live_is : (d : ℕ) → live s.colours s.control s.collector.sweep d ≡ true
    → live t.colours s.control s.collector.sweep d ≡ true
    = colour_each
    (λ d y. live s.colours s.control s.collector.sweep d ≡ true
    → is_live y (unswept s.control s.collector.sweep d) ≡ true)
    s.colours c (shaded x) (shaded_live x (unswept s.control s.collector.sweep c)) (λ d h. h) in
    let live_was : (d : ℕ) → live t.colours s.control s.collector.sweep d ≡ true
    → live s.colours s.control s.collector.sweep d ≡ true
    = colour_each
    (λ d y. is_live y (unswept s.control s.collector.sweep d) ≡ true
    → live s.colours s.control s.collector.sweep d ≡ true)
    s.colours c (shaded x) (λ _. alive) (λ d h. h) in
    record {
      mutators = record {
        statuses = k.mutators.statuses;
        answered = k.mutators.answered;
        modes = k.mutators.modes;
        out = k.mutators.out;
        marks = (λ i m. All-weaker (MarkStands s.colours) (MarkStands t.colours)
            (λ p h marked. not_white p.cell (h marked)) (own_in s.owns i).held
            (k.mutators.marks i m));
      };
      cells = record {
        anchor_box = k.cells.anchor_box;
        kinds = k.cells.kinds;
        blue_null = (λ d f blue. k.cells.blue_null d f
            (colour_each (λ e y. y ≡ colour.Blue → colour_of s e ≡ colour.Blue) s.colours c
            (shaded x) (shaded_blue x) (λ e h. h) d blue));
        anchor_live = live_is 0 k.cells.anchor_live;
        held_live = (λ i. All-weaker (λ p. live s.colours s.control s.collector.sweep p.cell ≡ true)
            (λ p. live t.colours s.control s.collector.sweep p.cell ≡ true)
            (λ p h. live_is p.cell h) (own_in s.owns i).held (k.cells.held_live i));
        child_live = (λ d e. live_is d (k.cells.child_live d e));
        names_live = (λ d e f h n. let r = k.cells.names_live d e f
            (live_was d h) n in (live_is e r.0, r.1));
        raw_once = k.cells.raw_once;
        raw_not_black = (λ i sync2. All-weaker (NoRawBlack s.colours s.rows)
            (NoRawBlack t.colours s.rows)
            (λ p h raw black. h raw (black_was p.cell black)) (own_in s.owns i).held
            (k.cells.raw_not_black i sync2));
        pendings = k.cells.pendings;
      };
      tracing = record {
        cleared = (λ d h black. k.tracing.cleared d h (black_was d black));
        anchor_marked = (λ h. not_white 0 (k.tracing.anchor_marked h));
        traced = (λ now set cut.
            let before : IsCutOff s.owns s.colours s.rows s.collector.scan set = record {
              white = (λ d is. white_was d (cut.white d is));
              child = cut.child;
              gray = (λ d e f is unread n sure. cut.gray d e f (gray_is d is) unread n sure);
              outside = (λ d e f is out n sure. elim (white_is d is) [
                | inl white ↦ cut.outside d e f white out n sure
                | inr gray ↦ cut.gray d e f gray
                    (open_elsewhere s.collector.scan d f (λ y scans same. absurd
                    (let g = (k.tracing.scans y scans).gray in
                    let w : colour_of s y.cell
                    ≡ colour.White = subst (λ m. colour_of s m ≡ colour.White) same is in cc)))
                    n sure
              ]);
            } in
            let old = k.tracing.traced now set before in record {
              black = (λ d e f is n. old.black d e f (black_was d is) n);
              scanned = old.scanned;
              held = old.held;
              doubtful = old.doubtful;
            });
        clean_pass = clean;
        pass_waits = k.tracing.pass_waits;
        scans = (λ y is. let r = k.tracing.scans y is in record {
          traces = r.traces;
          answers = r.answers;
          gray = gray_is y.cell r.gray;
          unclean = r.unclean;
        });
      };
      sweep = record {
        unswept = (λ d ahead gray. colour_each
            (λ e y. unswept s.control s.collector.sweep e ≡ true → y ≢ colour.Gray) s.colours c
            (shaded x)
            (λ far is. elim (shaded_gray x is) [
              | inl white ↦ let dead : live s.colours s.control s.collector.sweep c ≡ false
                  = subst (λ y. is_live y (unswept s.control s.collector.sweep c) ≡ false)
                  (sym white) (ap not far) in absurd cc
              | inr same ↦ k.sweep.unswept c far same
            ])
            k.sweep.unswept d ahead gray);
        wipes = (λ n is. let r = k.sweep.wipes n is in record {
          white = elim (white_is s.control.position r.white) [
            | inl white ↦ white
            | inr gray ↦ absurd (let dead = wiped_not_live s range n is r.white in
                let lives = live_was s.control.position
                (subst (λ y. is_live y (unswept s.control s.collector.sweep s.control.position)
                ≡ true) (sym gray) refl) in cc)
          ];
          null = r.null;
        });
        found_black = (λ is. black_is s.control.position (k.sweep.found_black is));
      };
    }

-- the cell that was shaded is not white
pub shaded_there : (s : State) (c : ℕ) → colour_of (with_shade s c) c ≢ colour.White
shaded_there s c = elim (cases_lt c (length s.colours)) [
  | inl lt ↦ λ white. shaded_not_white (colour_of s c)
      (sym (get_or-set_same s.colours c (shaded (colour_of s c)) colour.Blue lt) ∙ white)
  | inr past ↦ λ white.
      let same = set_past s.colours c (shaded (colour_of s c)) past in
      let blue : colour_of (with_shade s c) c ≡ colour.Blue
      = ap (λ xs. colour_in xs c) same ∙ get_or_past s.colours c colour.Blue past in absurd cc
]

pub cleared_blue : (x : Colour) → cleared x ≡ colour.Blue → x ≡ colour.Blue
cleared_blue colour.Blue e = refl
cleared_blue _ e = absurd cc
