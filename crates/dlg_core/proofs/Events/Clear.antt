-- ClearCell and Anchor: what the collector does between the handshakes.
--
-- ClearCell  a black cell becomes white. Every mutator is in sync1, so no mark counts, and outside
--            the sweep white cells are as live as black ones.
-- Anchor     the anchor is shaded, and is not white from now on.
use Rattle.std.proofs.Common.{◌≡◌, ◌≢◌, ◌⊎◌, inl, inr, ℕ, true, false, ◌+◌, ◌<◌, arith, refl, sym}
use Rattle.std.proofs.Common.{subst, ◌∙◌}
use Rattle.std.proofs.lemmas.Bool.{ltb-true, lt-ltb, cases_lt}
use Rattle.std.proofs.lemmas.List.Elements.{All-weaker}
use Rattle.cell_words.specs.declared.colours.Colour.{Colour}
use Rattle.cell_words.specs.declared.colours.Colour.TheVariants as colour
use Rattle.cell_words.specs.declared.controls.Stage.TheVariants as stage
use Rattle.cell_words.specs.declared.presences.Status.{Status}
use Rattle.cell_words.specs.declared.presences.Status.TheVariants as status
use Rattle.core_machine.specs.declared.events.Event.TheVariants as event
use Rattle.core_machine.specs.declared.progress.Sweeping.TheVariants as sweeping
use Rattle.core_machine.specs.State.{State, colour_of, field_of, presence_of, own_in}
use Rattle.core_machine.specs.Words.{cleared, same_stage}
use Rattle.cell_words.specs.declared.fields.Field.TheVariants as field
use Rattle.core_machine.specs.InRange.{IsShaped}
use Rattle.core_machine.specs.Next.{can, after}
use Rattle.core_machine.proofs.Conditions.{clear_needs, anchor_needs}
use Rattle.dlg_core.specs.Consistent.{IsConsistent, NoRawBlack}
use Rattle.dlg_core.specs.Facts.{is_live, live, status_fits, marks_count, is_cleared, anchor_counts}
use Rattle.dlg_core.proofs.Changes.Live.{live_facts, live_moves, not_sweeping, live_outside}
use Rattle.dlg_core.proofs.Changes.Live.{other_stage, status_known}
use Rattle.dlg_core.proofs.Changes.Pass.{pass_kept}
use Rattle.dlg_core.proofs.Changes.Shade.{with_shade, shade_kept, sweeps, shaded_there}
use Rattle.dlg_core.proofs.Changes.Shade.{cleared_blue}
use Rattle.dlg_core.proofs.Each.{colour_each, colour_else}

-- What clearing leaves of a colour.

pub cleared_not_black : (x : Colour) → cleared x ≢ colour.Black
cleared_not_black colour.Blue e = absurd cc
cleared_not_black colour.White e = absurd cc
cleared_not_black colour.Gray e = absurd cc
cleared_not_black colour.Black e = absurd cc

pub cleared_live : (x : Colour) → is_live (cleared x) false ≡ is_live x false
cleared_live colour.Blue = refl
cleared_live colour.White = refl
cleared_live colour.Gray = refl
cleared_live colour.Black = refl

-- in Clear no mark counts
pub no_mark_in_clear : (own : Status) → (status_fits stage.Clear own ≡ true) ⊎ (own ≡ status.Async)
    → marks_count stage.Clear own ≡ false
no_mark_in_clear status.Async h = refl
no_mark_in_clear status.Sync1 h = refl
no_mark_in_clear status.Sync2 h = elim h [ inl e ↦ absurd cc | inr e ↦ absurd cc ]

-- a number below the next one is below, or is it
pub below_or_here : (c n : ℕ) → c < n + 1 → (c < n) ⊎ (c ≡ n)
below_or_here c n lt = elim (cases_lt c n) [
  | inl below ↦ inl below
  | inr above ↦ inr (omega arith)
]

pub clear_keeps : (s : State) → IsShaped s → IsConsistent s → can s event.ClearCell ≡ true
    → IsConsistent (after s event.ClearCell)
clear_keeps s range k h =
    let needs = clear_needs s h in
    let now = needs.now in
    let t = after s event.ClearCell in
    let c = s.collector.cursor in
    let x = colour_of s c in
    let no_sweep : same_stage s.control.stage stage.Sweep
    ≡ false = other_stage s.control.stage stage.Clear now refl in
    let same_live : (d : ℕ)
    → live t.colours s.control s.collector.sweep d
    ≡ live s.colours s.control s.collector.sweep d
    = (λ d. live_outside t.colours s.control s.collector.sweep d no_sweep
    ∙ colour_each (λ e y. is_live y false ≡ is_live (colour_of s e) false) s.colours c (cleared x)
    (cleared_live x) (λ e. refl) d
    ∙ sym (live_outside s.colours s.control s.collector.sweep d no_sweep)) in
    let lives = live_moves (live s.colours s.control s.collector.sweep)
    (live t.colours s.control s.collector.sweep) s.rows s.owns s.collector.scan
    same_live (live_facts s k) in
    let black_was : (d : ℕ) → colour_of t d ≡ colour.Black → colour_of s d ≡ colour.Black
    = colour_each (λ e y. y ≡ colour.Black → colour_of s e ≡ colour.Black) s.colours c (cleared x)
    (λ e. absurd (cleared_not_black x e)) (λ e b. b) in
    let not_trace : s.control.stage ≡ stage.Trace → ⊥ = (λ e. cc) in
    let not_swept : s.collector.sweep ≢ sweeping.Fresh → ⊥ = (λ busy.
    absurd (let e = sweeps s.cells s.control.position s.collector.sweep s.control.stage
    range.control_fits.stage_fits busy in cc)) in
    record {
      mutators = record {
        statuses = k.mutators.statuses;
        answered = k.mutators.answered;
        modes = k.mutators.modes;
        out = k.mutators.out;
        marks = (λ i m. absurd (
            let never : marks_count s.control.stage (presence_of s i).status ≡ false
            = subst (λ y. marks_count y (presence_of s i).status ≡ false) (sym now)
            (no_mark_in_clear (presence_of s i).status
            (subst (λ y. (status_fits y (presence_of s i).status ≡ true)
            ⊎ ((presence_of s i).status ≡ status.Async))
            now (status_known s i range k))) in cc));
      };
      cells = record {
        anchor_box = k.cells.anchor_box;
        kinds = k.cells.kinds;
        blue_null = (λ d f b. colour_each
            (λ e y. y ≡ colour.Blue → field_of s e f ≡ field.Null) s.colours c (cleared x)
            (λ e. k.cells.blue_null c f (cleared_blue x e)) (λ e b2. k.cells.blue_null e f b2) d b);
        anchor_live = lives.anchor;
        held_live = lives.held;
        child_live = lives.child;
        names_live = lives.names;
        raw_once = k.cells.raw_once;
        raw_not_black = (λ i sync2. All-weaker (NoRawBlack s.colours s.rows)
            (NoRawBlack t.colours s.rows)
            (λ p g raw black. g raw (black_was p.cell black)) (own_in s.owns i).held
            (k.cells.raw_not_black i sync2));
        pendings = k.cells.pendings;
      };
      tracing = record {
        cleared = (λ d g. colour_else
            (λ e y. is_cleared s.control.stage (c + 1) e ≡ true → y ≢ colour.Black) s.colours c
            (cleared x)
            (subst (λ n. c < n) (sym range.cells_fit.colours_fit) needs.cell)
            (λ _. cleared_not_black x)
            (λ e other below black.
            elim (below_or_here e c
            (ltb-true e (c + 1) (subst (λ y. is_cleared y (c + 1) e ≡ true) now below))) [
              | inl lt ↦ k.tracing.cleared e
                  (subst (λ y. is_cleared y c e ≡ true) (sym now) (lt-ltb e c lt)) black
              | inr here ↦ other here
            ]) d g);
        anchor_marked = (λ g. absurd
            (let never : anchor_counts stage.Clear s.collector.anchor_marked ≡ true
            = subst (λ y. anchor_counts y s.collector.anchor_marked ≡ true) now g in cc));
        traced = (λ e. absurd (not_trace e));
        clean_pass = (λ e. absurd (not_trace e));
        pass_waits = (λ e. absurd (not_trace e));
        scans = (λ y e. absurd (not_trace (k.tracing.scans y e).traces));
      };
      sweep = record {
        unswept = (λ d ahead. absurd
            (let never = not_sweeping s.control s.collector.sweep d no_sweep in cc));
        wipes = (λ n e. absurd (not_swept (λ f. cc)));
        found_black = (λ e. absurd (not_swept (λ f. cc)));
      };
    }

pub anchor_keeps : (s : State) → IsShaped s → IsConsistent s → can s event.Anchor ≡ true
    → IsConsistent (after s event.Anchor)
anchor_keeps s range k h =
    let now = (anchor_needs s h).now in
    let t = with_shade s 0 in
    let shady = shade_kept s 0 range k k.cells.anchor_live (λ e. absurd cc) in
    pass_kept t t.collector.answered true t.collector.cursor t.collector.clean t.collector.scan
    shady record {
      answers = shady.mutators.answered;
      child_live = shady.cells.child_live;
      tracing = record {
        cleared = shady.tracing.cleared;
        anchor_marked = (λ g. shaded_there s 0);
        traced = shady.tracing.traced;
        clean_pass = shady.tracing.clean_pass;
        pass_waits = shady.tracing.pass_waits;
        scans = shady.tracing.scans;
      };
    }
