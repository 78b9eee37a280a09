-- Each event of the plain collector is possible on the way of a cycle, and stays on it: a line a
-- kind of event.
use Rattle.std.proofs.Common.{if◌then◌else◌, ◌≡◌, ◌≢◌, ◌==◌, ℕ, ◌<◌, ◌≤◌, true, false}
use Rattle.std.proofs.Common.{not, ◌&&◌, nat_lt, Option, Some, None, is_none, refl, sym, ap, subst}
use Rattle.std.proofs.Common.{◌∙◌, arith, eq-eqb}
use Rattle.std.proofs.lemmas.Bool.{and_from, eqb-true, eqb-false, lt-ltb, ltb-false, ltb-true}
use Rattle.cell_words.specs.declared.controls.Stage.{Stage}
use Rattle.cell_words.specs.declared.controls.Stage.TheVariants as stage
use Rattle.cell_words.specs.declared.colours.Colour.{Colour}
use Rattle.cell_words.specs.declared.colours.Colour.TheVariants as colour
use Rattle.core_machine.specs.declared.events.Event.{Event}
use Rattle.core_machine.specs.declared.events.Event.TheVariants as event
use Rattle.core_machine.specs.declared.progress.Scanning.{Scanning}
use Rattle.core_machine.specs.declared.progress.Sweeping.{Sweeping}
use Rattle.core_machine.specs.declared.progress.Sweeping.TheVariants as sweeping
use Rattle.core_machine.specs.Handshakes.{at_stage}
use Rattle.core_machine.specs.InRange.{ScanFits, SweepFits}
use Rattle.core_machine.specs.Next.{after, can, maker}
use Rattle.core_machine.specs.State.{State, all_answered, colour_of, greatest_cycles}
use Rattle.core_machine.specs.Sweep.{is_black_found, is_done, is_fresh, may_free, may_wipe}
use Rattle.core_machine.specs.Tracing.{may_blacken, may_scan, may_shade}
use Rattle.core_machine.specs.Words.{is_gray, is_handshake, same_stage}
use Rattle.dlg_core.specs.Kept.{IsKept}
use Rattle.dlg_core.specs.Left.{CursorFits, IsOnItsWay, MayBegin}
use Rattle.dlg_core.specs.Plain.{plain_scan, plain_sweep, plain_trace, plain_work}
use Rattle.dlg_core.specs.PlainCycle.{ends_cycle}
use Rattle.dlg_core.proofs.Changes.Shade.{here_unswept}
use Rattle.dlg_core.proofs.Finishing.Falls.{by_test, sweep_fits, swept_below}
use Rattle.dlg_core.proofs.Finishing.Less.{seen_fits}

-- the stage that an event leads to, with what stays for the way
pub record Stays (t : State) : Type 0 where
  pub at : Stage
  pub now : t.control.stage ≡ at
  pub cursor : CursorFits at t.collector.cursor t.cells
  pub begins : MayBegin at t.control.cycles

-- The event is the collector's and is possible, and it stays on the way where it does not end the
-- cycle.
pub record GoesOn (s : State) (e : Event) : Type 0 where
  pub collects : maker e ≡ None
  pub happens : can s e ≡ true
  pub stays : ends_cycle e ≡ false → Stays (after s e)

is_at : (s : State) (x : Stage) → s.control.stage ≡ x → same_stage x x ≡ true
    → at_stage s x ≡ true
is_at s x now same = subst (λ y. same_stage y x ≡ true) (sym now) same

-- Posts.

posts_sync1 : (s : State) → s.control.stage ≡ stage.Idle → s.control.cycles < greatest_cycles
    → GoesOn s (event.Post stage.Sync1)
posts_sync1 s now few = record {
  collects = refl;
  happens = and_from (at_stage s stage.Idle) _ (is_at s stage.Idle now refl)
      (lt-ltb s.control.cycles greatest_cycles few);
  stays = (λ other. record { at = stage.Sync1; now = refl; cursor = tt; begins = tt });
}

posts_clear : (s : State) → s.control.stage ≡ stage.Sync1 → all_answered s ≡ true
    → GoesOn s (event.Post stage.Clear)
posts_clear s now all = record {
  collects = refl;
  happens = and_from (at_stage s stage.Sync1) _ (is_at s stage.Sync1 now refl) all;
  stays = (λ other. record { at = stage.Clear; now = refl; cursor = omega arith; begins = tt });
}

posts_sync2 : (s : State) → s.control.stage ≡ stage.Clear → s.collector.cursor ≡ s.cells
    → GoesOn s (event.Post stage.Sync2)
posts_sync2 s now end = record {
  collects = refl;
  happens = and_from (at_stage s stage.Clear) _ (is_at s stage.Clear now refl)
      (eq-eqb s.collector.cursor s.cells end);
  stays = (λ other. record { at = stage.Sync2; now = refl; cursor = tt; begins = tt });
}

posts_trace : (s : State) → s.control.stage ≡ stage.Sync2 → all_answered s ≡ true
    → s.collector.anchor_marked ≡ true
    → GoesOn s (event.Post stage.Trace)
posts_trace s now all marked = record {
  collects = refl;
  happens = and_from (at_stage s stage.Sync2 && all_answered s) _
      (and_from (at_stage s stage.Sync2) _ (is_at s stage.Sync2 now refl) all) marked;
  stays = (λ other. record { at = stage.Trace; now = refl; cursor = omega arith; begins = tt });
}

-- all have answered, and nothing is under scan
between_scans : (s : State) → s.control.stage ≡ stage.Trace → all_answered s ≡ true
    → s.collector.scan ≡ None
    → (at_stage s stage.Trace && all_answered s && is_none s.collector.scan) ≡ true
between_scans s now all none =
    and_from (at_stage s stage.Trace && all_answered s) _
    (and_from (at_stage s stage.Trace) _ (is_at s stage.Trace now refl) all) (ap is_none none)

posts_sweep : (s : State) → s.control.stage ≡ stage.Trace → all_answered s ≡ true
    → s.collector.scan ≡ None
    → s.collector.cursor ≡ s.cells → s.collector.clean ≡ true → GoesOn s (event.Post stage.Sweep)
posts_sweep s now all none end clean = record {
  collects = refl;
  happens = and_from
      (at_stage s stage.Trace && all_answered s && is_none s.collector.scan
      && (s.collector.cursor == s.cells)) _
      (and_from (at_stage s stage.Trace && all_answered s && is_none s.collector.scan) _
      (between_scans s now all none) (eq-eqb s.collector.cursor s.cells end)) clean;
  stays = (λ other. record { at = stage.Sweep; now = refl; cursor = tt; begins = tt });
}

-- the cycle ends
posts_idle : (s : State) → s.control.stage ≡ stage.Sweep → s.control.position ≡ s.cells
    → GoesOn s (event.Post stage.Idle)
posts_idle s now end = record {
  collects = refl;
  happens = and_from (at_stage s stage.Sweep) _ (is_at s stage.Sweep now refl)
      (eq-eqb s.control.position s.cells end);
  stays = (λ other. absurd cc);
}

-- Clearing and marking.

clears : (s : State) → s.control.stage ≡ stage.Clear → s.collector.cursor < s.cells
    → GoesOn s event.ClearCell
clears s now lt = record {
  collects = refl;
  happens = and_from (at_stage s stage.Clear) _ (is_at s stage.Clear now refl)
      (lt-ltb s.collector.cursor s.cells lt);
  stays = (λ other. record { at = stage.Clear; now = now; cursor = omega arith; begins = tt });
}

marks : (s : State) → s.control.stage ≡ stage.Sync2 → all_answered s ≡ true
    → GoesOn s event.Anchor
marks s now all = record {
  collects = refl;
  happens = and_from (at_stage s stage.Sync2) _ (is_at s stage.Sync2 now refl) all;
  stays = (λ other. record { at = stage.Sync2; now = now; cursor = tt; begins = tt });
}

-- Tracing.

sees : (s : State) (cell : ℕ) → s.control.stage ≡ stage.Trace → all_answered s ≡ true
    → s.collector.scan ≡ None
    → s.collector.cursor ≤ s.cells → cell < s.cells → GoesOn s (event.See cell)
sees s cell now all none fits there = record {
  collects = refl;
  happens = and_from (at_stage s stage.Trace && all_answered s && is_none s.collector.scan) _
      (between_scans s now all none) (lt-ltb cell s.cells there);
  stays = (λ other. record {
    at = stage.Trace;
    now = now;
    cursor = seen_fits s.cells s.collector cell (colour_of s cell) there fits;
    begins = tt;
  });
}

scans : (s : State) (x : Scanning) → s.control.stage ≡ stage.Trace
    → s.collector.cursor ≤ s.cells
    → s.collector.scan ≡ Some x → x.next < 5 → x.child ≡ None → GoesOn s event.Scan
scans s x now fits under lt none = record {
  collects = refl;
  happens = subst (λ scan. may_scan scan ≡ true) (sym under)
      (and_from (nat_lt x.next 5) _ (lt-ltb x.next 5 lt) (ap is_none none));
  stays = (λ other. record { at = stage.Trace; now = now; cursor = fits; begins = tt });
}

shades : (s : State) (x : Scanning) (child : ℕ) → s.control.stage ≡ stage.Trace
    → s.collector.cursor ≤ s.cells
    → s.collector.scan ≡ Some x → x.child ≡ Some child → GoesOn s event.Shade
shades s x child now fits under is = record {
  collects = refl;
  happens = subst (λ scan. may_shade scan ≡ true) (sym under) (ap (λ c. not (is_none c)) is);
  stays = (λ other. record { at = stage.Trace; now = now; cursor = fits; begins = tt });
}

blackens : (s : State) (x : Scanning) → s.control.stage ≡ stage.Trace
    → s.collector.cursor ≤ s.cells
    → s.collector.scan ≡ Some x → x.next ≡ 5 → GoesOn s event.Blacken
blackens s x now fits under five = record {
  collects = refl;
  happens = subst (λ scan. may_blacken scan ≡ true) (sym under) (eq-eqb x.next 5 five);
  stays = (λ other. record { at = stage.Trace; now = now; cursor = fits; begins = tt });
}

-- The sweep.

-- it goes on
stays_swept : (t : State) → t.control.stage ≡ stage.Sweep → Stays t
stays_swept t now = record { at = stage.Sweep; now = now; cursor = tt; begins = tt }

-- there is a cell at the position
at_cell : (s : State) → s.control.stage ≡ stage.Sweep → s.control.position < s.cells
    → (at_stage s stage.Sweep && nat_lt s.control.position s.cells) ≡ true
at_cell s now lt = and_from (at_stage s stage.Sweep) _ (is_at s stage.Sweep now refl)
    (lt-ltb s.control.position s.cells lt)

other_colour : (x : Colour) → x ≢ colour.Gray → not (is_gray x) ≡ true
other_colour colour.Blue other = refl
other_colour colour.White other = refl
other_colour colour.Gray other = absurd (other refl)
other_colour colour.Black other = refl

looks : (s : State) → IsKept s → s.control.stage ≡ stage.Sweep → s.control.position < s.cells
    → s.collector.sweep ≡ sweeping.Fresh
    → GoesOn s event.SweepLook
looks s k now lt fresh =
    let other = k.consistent.sweep.unswept s.control.position
    (here_unswept s.control s.collector.sweep now (λ e. undone (sym fresh ∙ e))) in
    record {
      collects = refl;
      happens = and_from
          (at_stage s stage.Sweep && nat_lt s.control.position s.cells
          && is_fresh s.collector.sweep) _
          (and_from (at_stage s stage.Sweep && nat_lt s.control.position s.cells) _
          (at_cell s now lt) (ap is_fresh fresh))
          (other_colour (colour_of s s.control.position) other);
      stays = (λ others. stays_swept (after s event.SweepLook) now);
    }
  where
    undone : sweeping.Fresh ≢ sweeping.Done
    undone = λ e. cc

wipes : (s : State) (j : ℕ) → s.control.stage ≡ stage.Sweep → s.collector.sweep ≡ sweeping.Wiping j
    → j < 6 → GoesOn s event.Wipe
wipes s j now is few = record {
  collects = refl;
  happens = subst (λ x. may_wipe x ≡ true) (sym is) (lt-ltb j 6 few);
  stays = (λ other. stays_swept (after s event.Wipe) now);
}

frees : (s : State) (j : ℕ) → s.control.stage ≡ stage.Sweep → s.collector.sweep ≡ sweeping.Wiping j
    → j ≡ 6 → GoesOn s event.Free
frees s j now is six = record {
  collects = refl;
  happens = subst (λ x. may_free x ≡ true) (sym is) (eq-eqb j 6 six);
  stays = (λ other. stays_swept (after s event.Free) now);
}

whitens : (s : State) → s.control.stage ≡ stage.Sweep → s.collector.sweep ≡ sweeping.BlackFound
    → GoesOn s event.Whiten
whitens s now is = record {
  collects = refl;
  happens = ap is_black_found is;
  stays = (λ other. stays_swept (after s event.Whiten) now);
}

advances : (s : State) → s.control.stage ≡ stage.Sweep → s.control.position < s.cells
    → s.collector.sweep ≡ sweeping.Done
    → GoesOn s event.Advance
advances s now lt is = record {
  collects = refl;
  happens = and_from (at_stage s stage.Sweep && nat_lt s.control.position s.cells) _
      (at_cell s now lt) (ap is_done is);
  stays = (λ other. stays_swept (after s event.Advance) now);
}

-- What the plain collector takes.

swept : (s : State) (sweep : Sweeping) → IsKept s → s.control.stage ≡ stage.Sweep
    → s.control.position < s.cells
    → s.collector.sweep ≡ sweep → SweepFits s.cells s.control.position sweep
    → GoesOn s (plain_sweep sweep)
swept s sweeping.Fresh k now lt is fits = looks s k now lt is
swept s (sweeping.Wiping j) k now lt is fits =
    by_test (GoesOn s) (nat_lt j 6) event.Wipe event.Free
    (λ h. wipes s j now is (ltb-true j 6 h))
    (λ h. frees s j now is
    (let most = fits.1 in let least = ltb-false j 6 h in omega arith))
swept s sweeping.BlackFound k now lt is fits = whitens s now is
swept s sweeping.Done k now lt is fits = advances s now lt is

scanning : (s : State) (x : Scanning) (child : Option ℕ) → s.control.stage ≡ stage.Trace
    → s.collector.cursor ≤ s.cells
    → s.collector.scan ≡ Some x → x.child ≡ child → x.next ≤ 5
    → GoesOn s (plain_scan x child)
scanning s x None now fits under is most =
    by_test (GoesOn s) (nat_lt x.next 5) event.Scan event.Blacken
    (λ h. scans s x now fits under (ltb-true x.next 5 h) is)
    (λ h. blackens s x now fits under (let least = ltb-false x.next 5 h in omega arith))
scanning s x (Some c) now fits under is most = shades s x c now fits under is

traced : (s : State) (scan : Option Scanning) → IsKept s → s.control.stage ≡ stage.Trace
    → all_answered s ≡ true
    → s.collector.cursor ≤ s.cells → s.collector.scan ≡ scan → ScanFits s.cells scan
    → GoesOn s (plain_trace s.collector s.cells scan)
traced s None k now all fits none scan_fits =
    by_test (GoesOn s) (s.collector.cursor == s.cells)
    (if s.collector.clean then event.Post stage.Sweep else event.See 0)
    (event.See s.collector.cursor)
    (λ end. by_test (GoesOn s) s.collector.clean (event.Post stage.Sweep) (event.See 0)
    (λ h. posts_sweep s now all none (eqb-true s.collector.cursor s.cells end) h)
    (λ h. sees s 0 now all none fits k.range.shape.cells_fit.some_cells))
    (λ on. sees s s.collector.cursor now all none fits
    (let other = eqb-false s.collector.cursor s.cells on in omega arith))
traced s (Some x) k now all fits under scan_fits =
    scanning s x x.child now fits under refl scan_fits.1

-- the work of a stage, where no answer is waited for
pub works : (s : State) (x : Stage) → IsKept s → IsOnItsWay s
    → (is_handshake x ≡ true → all_answered s ≡ true)
    → s.control.stage ≡ x → GoesOn s (plain_work s x)
works s stage.Idle k way all now =
    posts_sync1 s now (subst (λ x. MayBegin x s.control.cycles) now way.begins)
works s stage.Sync1 k way all now = posts_clear s now (all refl)
works s stage.Clear k way all now =
    let fits : s.collector.cursor ≤ s.cells
    = subst (λ x. CursorFits x s.collector.cursor s.cells) now way.cursor in
    by_test (GoesOn s) (nat_lt s.collector.cursor s.cells) event.ClearCell
    (event.Post stage.Sync2)
    (λ h. clears s now (ltb-true s.collector.cursor s.cells h))
    (λ h. posts_sync2 s now
    (let least = ltb-false s.collector.cursor s.cells h in omega arith))
works s stage.Sync2 k way all now =
    by_test (GoesOn s) s.collector.anchor_marked (event.Post stage.Trace) event.Anchor
    (λ h. posts_trace s now (all refl) h) (λ h. marks s now (all refl))
works s stage.Trace k way all now =
    traced s s.collector.scan k now (all refl)
    (subst (λ x. CursorFits x s.collector.cursor s.cells) now way.cursor) refl
    k.range.shape.names_fit.scan_fits
works s stage.Sweep k way all now =
    by_test (GoesOn s) (s.control.position == s.cells) (event.Post stage.Idle)
    (plain_sweep s.collector.sweep)
    (λ h. posts_idle s now (eqb-true s.control.position s.cells h))
    (λ h. swept s s.collector.sweep k now
    (swept_below s.cells s.control.position s.collector.sweep (sweep_fits s k now)
    (eqb-false s.control.position s.cells h)) refl (sweep_fits s k now))
