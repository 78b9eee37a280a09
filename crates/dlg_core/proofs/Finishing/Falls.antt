-- No event of the plain collector that is possible leaves what is left as it was, on the way of a
-- cycle or not: a line a kind of event, each with its arithmetic in Less.
use Rattle.std.proofs.Common.{if◌then◌else◌, ◌≡◌, ◌≢◌, ◌==◌, ℕ, ◌+◌, ◌-◌, ◌*◌, ◌<◌, ◌≤◌, Bool, true}
use Rattle.std.proofs.Common.{false, not, ◌&&◌, nat_lt, length, Option, Some, None, refl, sym, ap}
use Rattle.std.proofs.Common.{subst, ◌∙◌, arith}
use Rattle.std.proofs.Math.ListN.{set}
use Rattle.std.proofs.lemmas.Bool.{eqb-true, eqb-false, ltb-true}
use Rattle.std.proofs.lemmas.List.Sums.{count_by-le-length}
use Rattle.cell_words.specs.declared.controls.Stage.{Stage}
use Rattle.cell_words.specs.declared.controls.Stage.TheVariants as stage
use Rattle.cell_words.specs.declared.colours.Colour.{Colour}
use Rattle.cell_words.specs.declared.colours.Colour.TheVariants as colour
use Rattle.core_machine.specs.declared.events.Event.{Event}
use Rattle.core_machine.specs.declared.events.Event.TheVariants as event
use Rattle.core_machine.specs.declared.progress.Scanning.{Scanning}
use Rattle.core_machine.specs.declared.progress.Sweeping.{Sweeping}
use Rattle.core_machine.specs.declared.progress.Sweeping.TheVariants as sweeping
use Rattle.core_machine.specs.Collector.{Collector, on_scan, passed, restarted, scan_shaded}
use Rattle.core_machine.specs.Collector.{scanned, seen, sweep_of, wiped}
use Rattle.core_machine.specs.InRange.{ChildFits, ScanFits, StageFits, SweepFits}
use Rattle.core_machine.specs.Next.{after, can}
use Rattle.core_machine.specs.State.{State, colour_of, field_of}
use Rattle.core_machine.specs.Tracing.{child_or_anchor, scan_or_none}
use Rattle.core_machine.specs.Words.{is_gray}
use Rattle.core_machine.proofs.Conditions.{see_needs, sweep_look_needs}
use Rattle.dlg_core.specs.Kept.{IsKept}
use Rattle.dlg_core.specs.Left.{anchor_left, cells_left, is_left, left, left_behind, place_done}
use Rattle.dlg_core.specs.Left.{stage_left, trace_left, unanswered, whole_clear, whole_cycle}
use Rattle.dlg_core.specs.Left.{whole_sweep, whole_sync2, whole_trace}
use Rattle.dlg_core.specs.Plain.{plain_scan, plain_sweep, plain_trace, plain_work}
use Rattle.dlg_core.specs.PlainCycle.{ends_cycle, look_before}
use Rattle.dlg_core.proofs.Finishing.Less.{DoesMore, advance_step, blackened_less, end_step}
use Rattle.dlg_core.proofs.Finishing.Less.{freed_more, gray_left, looked_more, nobody_few}
use Rattle.dlg_core.proofs.Finishing.Less.{place_step, scan_step, scanned_less, see_again_less}
use Rattle.dlg_core.proofs.Finishing.Less.{see_on_less, shade_less, shaded_same, trace_few}
use Rattle.dlg_core.proofs.Finishing.Less.{trace_most, whitened_more, wiped_more}

-- what is left at a stage
pub left_at : (s : State) (x : Stage) → s.control.stage ≡ x → left s ≡ stage_left s x
unfolding left
left_at s x now = ap (stage_left s) now

-- The event is a turn alone, and leaves less to do where it is possible.
pub record Lessens (s : State) (e : Event) : Type 0 where
  pub no_look : look_before e ≡ None
  pub less : can s e ≡ true → left_behind (ends_cycle e) (after s e) + 1 ≤ left s

-- from one stage to another, or at one
less_at : (s t : State) (x y : Stage) → s.control.stage ≡ x → t.control.stage ≡ y
    → stage_left t y + 1 ≤ stage_left s x
    → left t + 1 ≤ left s
less_at s t x y now later less =
    let old = left_at s x now in
    let new = left_at t y later in
    omega arith

-- Posts.

posts_sync1 : (s : State) → IsKept s → s.control.stage ≡ stage.Idle
    → Lessens s (event.Post stage.Sync1)
posts_sync1 s k now = record {
  no_look = refl;
  less = (λ happens.
      less_at s (after s (event.Post stage.Sync1)) stage.Idle stage.Sync1 now refl
      (let nobody = nobody_few s.collector.answered in
      let all = k.range.shape.mutators_fit.answered_fit in
      begun _ s.mutators (whole_clear s.cells s.mutators) (omega arith)));
}
  where
    begun : (u m rest : ℕ) → u ≤ m → 2 * u + 1 + rest + 1 ≤ 1 + (2 * m + 1 + rest)
    begun u m rest few = omega arith

posts_clear : (s : State) → s.control.stage ≡ stage.Sync1 → Lessens s (event.Post stage.Clear)
posts_clear s now = record {
  no_look = refl;
  less = (λ happens.
      less_at s (after s (event.Post stage.Clear)) stage.Sync1 stage.Clear now refl
      (begun (unanswered s.collector.answered) s.cells (whole_sync2 s.cells s.mutators)));
}
  where
    begun : (u cells rest : ℕ) → (cells - 0) + 1 + rest + 1 ≤ 2 * u + 1 + (cells + 1 + rest)
    begun u cells rest = omega arith

posts_sync2 : (s : State) → IsKept s → s.control.stage ≡ stage.Clear
    → Lessens s (event.Post stage.Sync2)
posts_sync2 s k now = record {
  no_look = refl;
  less = (λ happens.
      less_at s (after s (event.Post stage.Sync2)) stage.Clear stage.Sync2 now refl
      (let nobody = nobody_few s.collector.answered in
      let all = k.range.shape.mutators_fit.answered_fit in
      begun _ s.mutators s.cells s.collector.cursor (whole_trace s.cells s.mutators)
      (omega arith)));
}
  where
    begun : (u m cells cursor rest : ℕ) → u ≤ m
        → 2 * u + 1 + 1 + rest + 1 ≤ (cells - cursor) + 1 + (2 * m + 2 + rest)
    begun u m cells cursor rest few = omega arith

-- no cell is under scan before tracing
no_scan_at : (s : State) (x : Stage) → IsKept s → s.control.stage ≡ x → stage.Trace ≢ x
    → s.collector.scan ≡ None
no_scan_at s x k now other = nothing s.collector.scan refl
  where
    nothing : (scan : Option Scanning) → s.collector.scan ≡ scan → scan ≡ None
    nothing None is = refl
    nothing (Some y) is =
        absurd (other (sym (k.consistent.tracing.scans y is).traces ∙ now))

posts_trace : (s : State) → IsKept s → s.control.stage ≡ stage.Sync2
    → Lessens s (event.Post stage.Trace)
posts_trace s k now = record {
  no_look = refl;
  less = (λ happens.
      less_at s (after s (event.Post stage.Trace)) stage.Sync2 stage.Trace now refl
      (let nobody = nobody_few s.collector.answered in
      let everybody = k.range.shape.mutators_fit.answered_fit in
      let fit = k.range.shape.cells_fit.colours_fit in
      let some = count_by-le-length is_left s.colours in
      let none = no_scan_at s stage.Sync2 k now (λ e. cc) in
      let few = trace_few s.cells (cells_left s.colours) 0 s.collector.scan none (omega arith) in
      begun _ s.mutators _ (s.cells * (s.cells + 12) + s.cells) (whole_sweep s.cells)
      (unanswered s.collector.answered) (anchor_left s.collector.anchor_marked) (omega arith)
      few));
}
  where
    begun : (u m a b rest v w : ℕ) → u ≤ m → a ≤ b
        → 2 * u + a + 1 + rest + 1 ≤ 2 * v + w + 1 + (2 * m + b + 1 + rest)
    begun u m a b rest v w few less = omega arith

posts_sweep : (s : State) → s.control.stage ≡ stage.Trace → Lessens s (event.Post stage.Sweep)
posts_sweep s now = record {
  no_look = refl;
  less = (λ happens.
      less_at s (after s (event.Post stage.Sweep)) stage.Trace stage.Sweep now refl
      (begun s.cells (unanswered s.collector.answered)
      (trace_left s.cells (cells_left s.colours) s.collector.clean s.collector.cursor
      s.collector.scan)));
}
  where
    begun : (cells u a : ℕ)
        → (9 * (cells - 0) - 0) + 1 + 1 ≤ 2 * u + a + 1 + (9 * cells + 1)
    begun cells u a = omega arith

-- the cycle ends
posts_idle : (s : State) → s.control.stage ≡ stage.Sweep → Lessens s (event.Post stage.Idle)
posts_idle s now = record {
  no_look = refl;
  less = (λ happens. subst (λ n. 0 + 1 ≤ n) (sym (left_at s stage.Sweep now)) (omega arith));
}

-- Clearing and marking.

clears : (s : State) → s.control.stage ≡ stage.Clear → s.collector.cursor < s.cells
    → Lessens s event.ClearCell
clears s now lt = record {
  no_look = refl;
  less = (λ happens. less_at s (after s event.ClearCell) stage.Clear stage.Clear now now
      (cleared s.cells s.collector.cursor (whole_sync2 s.cells s.mutators) lt));
}
  where
    cleared : (cells cursor rest : ℕ) → cursor < cells
        → (cells - (cursor + 1)) + 1 + rest + 1 ≤ (cells - cursor) + 1 + rest
    cleared cells cursor rest lt = omega arith

marks : (s : State) → s.control.stage ≡ stage.Sync2 → s.collector.anchor_marked ≡ false
    → Lessens s event.Anchor
marks s now unmarked = record {
  no_look = refl;
  less = (λ happens. less_at s (after s event.Anchor) stage.Sync2 stage.Sync2 now now
      (marked (2 * unanswered s.collector.answered) _ (whole_trace s.cells s.mutators)
      (ap anchor_left unmarked)));
}
  where
    marked : (u a rest : ℕ) → a ≡ 1 → u + 0 + 1 + rest + 1 ≤ u + a + 1 + rest
    marked u a rest one = omega arith

-- Tracing.

-- what is left of tracing becomes less
trace_less : (s t : State) → s.control.stage ≡ stage.Trace → t.control.stage ≡ stage.Trace
    → t.collector.answered ≡ s.collector.answered → t.cells ≡ s.cells
    → trace_left t.cells (cells_left t.colours) t.collector.clean t.collector.cursor
    t.collector.scan + 1
    ≤ trace_left s.cells (cells_left s.colours) s.collector.clean s.collector.cursor
    s.collector.scan
    → left t + 1 ≤ left s
trace_less s t now later same_answers same_cells less =
    less_at s t stage.Trace stage.Trace now later
    (fewer (unanswered t.collector.answered) (unanswered s.collector.answered)
    (trace_left t.cells (cells_left t.colours) t.collector.clean t.collector.cursor
    t.collector.scan)
    (trace_left s.cells (cells_left s.colours) s.collector.clean s.collector.cursor
    s.collector.scan)
    t.cells s.cells (ap unanswered same_answers) same_cells less)
  where
    fewer : (u v a b c d : ℕ) → u ≡ v → c ≡ d → a + 1 ≤ b
        → 2 * u + a + 1 + (9 * c + 1) + 1 ≤ 2 * v + b + 1 + (9 * d + 1)
    fewer u v a b c d same also less = omega arith

-- a look at a cell leaves who has answered
passed_answers : (c : Collector) (cell : ℕ) → (passed c cell).answered ≡ c.answered
passed_answers c cell = elim (cell == c.cursor)
    as (λ b. (if b then record c { cursor = c.cursor + 1 } else c).answered ≡ c.answered) [
      | true ↦ refl
      | false ↦ refl
    ]

seen_plain : (c : Collector) (cell : ℕ) (found : Colour) → (seen c cell found).answered ≡ c.answered
seen_plain c cell colour.Blue = passed_answers c cell
seen_plain c cell colour.White = passed_answers c cell
seen_plain c cell colour.Gray = refl
seen_plain c cell colour.Black = passed_answers c cell

seen_answers : (cells : ℕ) (c : Collector) (cell : ℕ) (found : Colour)
    → (seen (restarted c cells) cell found).answered ≡ c.answered
seen_answers cells c cell found =
    seen_plain (restarted c cells) cell found
    ∙ elim ((c.cursor == cells) && not c.clean)
    as (λ b. (if b then record c { cursor = 0; clean = true } else c).answered ≡ c.answered) [
      | true ↦ refl
      | false ↦ refl
    ]

-- a gray cell is one that is left
gray_is_left : (s : State) (cell : ℕ) → IsKept s → cell < s.cells
    → colour_of s cell ≡ colour.Gray → 0 < cells_left s.colours
gray_is_left s cell k there gray =
    gray_left s.colours cell (subst (λ n. cell < n) (sym k.range.shape.cells_fit.colours_fit) there)
    gray

-- the next cell of a pass
sees : (s : State) → IsKept s → s.control.stage ≡ stage.Trace → s.collector.scan ≡ None
    → Lessens s (event.See s.collector.cursor)
sees s k now none = record {
  no_look = refl;
  less = (λ happens.
      let cell = s.collector.cursor in
      let there = (see_needs s cell happens).cell in
      trace_less s (after s (event.See cell)) now now
      (seen_answers s.cells s.collector cell (colour_of s cell)) refl
      (see_on_less s.cells (cells_left s.colours) s.collector (colour_of s cell) none there
      (gray_is_left s cell k there)));
}

-- the first cell of the next pass
sees_again : (s : State) → IsKept s → s.control.stage ≡ stage.Trace → s.collector.scan ≡ None
    → s.collector.cursor ≡ s.cells
    → s.collector.clean ≡ false → Lessens s (event.See 0)
sees_again s k now none end unclean = record {
  no_look = refl;
  less = (λ happens.
      let some = k.range.shape.cells_fit.some_cells in
      trace_less s (after s (event.See 0)) now now
      (seen_answers s.cells s.collector 0 (colour_of s 0)) refl
      (see_again_less s.cells (cells_left s.colours) s.collector (colour_of s 0) none some end
      unclean (gray_is_left s 0 k some)));
}

-- of a cell under scan
scans : (s : State) (x : Scanning) → s.control.stage ≡ stage.Trace → s.collector.scan ≡ Some x
    → x.next < 5
    → x.child ≡ None → Lessens s event.Scan
scans s x now under lt none = record {
  no_look = refl;
  less = (λ happens. trace_less s (after s event.Scan) now now refl refl
      (subst
      (λ scan. trace_left s.cells (cells_left s.colours) s.collector.clean s.collector.cursor
      (on_scan
      (λ y. scanned y (field_of s (scan_or_none scan).cell (scan_or_none scan).next)) scan) + 1
      ≤ trace_left s.cells (cells_left s.colours) s.collector.clean s.collector.cursor scan)
      (sym under)
      (scan_step s.cells (cells_left s.colours) s.collector.clean s.collector.cursor x
      (scanned x (field_of s x.cell x.next))
      (scanned_less x (field_of s x.cell x.next) lt none))));
}

shades : (s : State) (x : Scanning) (child : ℕ) → IsKept s → s.control.stage ≡ stage.Trace
    → s.collector.scan ≡ Some x
    → x.next < 5 → x.child ≡ Some child → child < s.cells → Lessens s event.Shade
shades s x child k now under lt is there = record {
  no_look = refl;
  less = (λ happens. trace_less s (after s event.Shade) now now refl refl
      (subst
      (λ n. trace_left s.cells n s.collector.clean s.collector.cursor
      (on_scan scan_shaded s.collector.scan) + 1
      ≤ trace_left s.cells (cells_left s.colours) s.collector.clean s.collector.cursor
      s.collector.scan)
      (sym (shaded_same s.colours (child_or_anchor (scan_or_none s.collector.scan).child)
      within))
      (subst
      (λ scan. trace_left s.cells (cells_left s.colours) s.collector.clean s.collector.cursor
      (on_scan scan_shaded scan) + 1
      ≤ trace_left s.cells (cells_left s.colours) s.collector.clean s.collector.cursor scan)
      (sym under)
      (scan_step s.cells (cells_left s.colours) s.collector.clean s.collector.cursor x
      (scan_shaded x) (shade_less x.next x.child child is lt)))));
}
  where
    within : child_or_anchor (scan_or_none s.collector.scan).child < length s.colours
    within =
        subst (λ scan. child_or_anchor (scan_or_none scan).child < length s.colours) (sym under)
        (subst (λ c. child_or_anchor c < length s.colours) (sym is)
        (subst (λ n. child < n) (sym k.range.shape.cells_fit.colours_fit) there))

blackens : (s : State) (x : Scanning) → IsKept s → s.control.stage ≡ stage.Trace
    → s.collector.scan ≡ Some x
    → x.child ≡ None → x.cell < s.cells → Lessens s event.Blacken
blackens s x k now under none there = record {
  no_look = refl;
  less = (λ happens.
      let scan = k.consistent.tracing.scans x under in
      trace_less s (after s event.Blacken) now now refl refl
      (subst
      (λ scan. trace_left s.cells
      (cells_left (set s.colours (scan_or_none scan).cell colour.Black)) s.collector.clean
      s.collector.cursor None + 1
      ≤ trace_left s.cells (cells_left s.colours) s.collector.clean s.collector.cursor scan)
      (sym under)
      (end_step s.cells (cells_left (set s.colours x.cell colour.Black)) (cells_left s.colours)
      s.collector.clean s.collector.cursor x
      (blackened_less s.colours x.cell
      (subst (λ n. x.cell < n) (sym k.range.shape.cells_fit.colours_fit) there) scan.gray)
      scan.unclean none)));
}

-- The sweep.

-- the work on the cell at the position goes on
place_less : (s t : State) → s.control.stage ≡ stage.Sweep → t.control.stage ≡ stage.Sweep
    → t.cells ≡ s.cells
    → t.control.position ≡ s.control.position → s.control.position < s.cells
    → DoesMore s.collector.sweep t.collector.sweep → left t + 1 ≤ left s
place_less s t now later same_cells same_position lt does =
    less_at s t stage.Sweep stage.Sweep now later
    (subst (λ n. (n - place_done t.collector.sweep) + 1 + 1
    ≤ (9 * (s.cells - s.control.position) - place_done s.collector.sweep) + 1)
    (ap (λ n. 9 * (n - s.control.position)) (sym same_cells)
    ∙ ap (λ n. 9 * (t.cells - n)) (sym same_position))
    (place_step (9 * (s.cells - s.control.position)) (place_done s.collector.sweep)
    (place_done t.collector.sweep) (omega arith) does.more does.few))

not_gray : (x : Colour) → not (is_gray x) ≡ true → x ≢ colour.Gray
not_gray colour.Blue h e = absurd cc
not_gray colour.White h e = absurd cc
not_gray colour.Gray h e = absurd cc
not_gray colour.Black h e = absurd cc

looks : (s : State) → s.control.stage ≡ stage.Sweep → s.control.position < s.cells
    → s.collector.sweep ≡ sweeping.Fresh
    → Lessens s event.SweepLook
looks s now lt fresh = record {
  no_look = refl;
  less = (λ happens.
      let other = (sweep_look_needs s happens).not_gray in
      place_less s (after s event.SweepLook) now now refl refl lt
      (subst (λ x. DoesMore x (sweep_of (colour_of s s.control.position))) (sym fresh)
      (looked_more (colour_of s s.control.position)
      (not_gray (colour_of s s.control.position) (ap not other)))));
}

wipes : (s : State) (j : ℕ) → s.control.stage ≡ stage.Sweep → s.control.position < s.cells
    → s.collector.sweep ≡ sweeping.Wiping j
    → j < 6 → Lessens s event.Wipe
wipes s j now lt is few = record {
  no_look = refl;
  less = (λ happens. place_less s (after s event.Wipe) now now refl refl lt
      (subst (λ x. DoesMore x (wiped x)) (sym is) (wiped_more j few)));
}

frees : (s : State) (j : ℕ) → s.control.stage ≡ stage.Sweep → s.control.position < s.cells
    → s.collector.sweep ≡ sweeping.Wiping j
    → j ≤ 6 → Lessens s event.Free
frees s j now lt is few = record {
  no_look = refl;
  less = (λ happens. place_less s (after s event.Free) now now refl refl lt
      (subst (λ x. DoesMore x sweeping.Done) (sym is) (freed_more j few)));
}

whitens : (s : State) → s.control.stage ≡ stage.Sweep → s.control.position < s.cells
    → s.collector.sweep ≡ sweeping.BlackFound
    → Lessens s event.Whiten
whitens s now lt is = record {
  no_look = refl;
  less = (λ happens. place_less s (after s event.Whiten) now now refl refl lt
      (subst (λ x. DoesMore x sweeping.Done) (sym is) whitened_more));
}

advances : (s : State) → s.control.stage ≡ stage.Sweep → s.control.position < s.cells
    → s.collector.sweep ≡ sweeping.Done
    → Lessens s event.Advance
advances s now lt is = record {
  no_look = refl;
  less = (λ happens. less_at s (after s event.Advance) stage.Sweep stage.Sweep now now
      (subst
      (λ x. (9 * (s.cells - (s.control.position + 1)) - 0) + 1 + 1
      ≤ (9 * (s.cells - s.control.position) - place_done x) + 1)
      (sym is) (advance_step s.cells s.control.position lt)));
}

-- What the plain collector takes.

-- by the value of a test
pub by_test : (P : Event → Type 0) (test : Bool) (e other : Event) → (test ≡ true → P e)
    → (test ≡ false → P other)
    → P (if test then e else other)
by_test P true e other if_so if_not = if_so refl
by_test P false e other if_so if_not = if_not refl

-- at a cell that is still to be swept
pub swept_below : (cells position : ℕ) (sweep : Sweeping) → SweepFits cells position sweep
    → position ≢ cells
    → position < cells
swept_below cells position sweeping.Fresh fits on = omega arith
swept_below cells position (sweeping.Wiping j) fits on = fits.0
swept_below cells position sweeping.BlackFound fits on = fits
swept_below cells position sweeping.Done fits on = fits

pub sweep_fits : (s : State) → IsKept s → s.control.stage ≡ stage.Sweep
    → SweepFits s.cells s.control.position s.collector.sweep
sweep_fits s k now = subst (λ x. StageFits s.cells s.control.position s.collector.sweep x) now
    k.range.shape.control_fits.stage_fits

swept : (s : State) (sweep : Sweeping) → s.control.stage ≡ stage.Sweep
    → s.control.position < s.cells
    → s.collector.sweep ≡ sweep → SweepFits s.cells s.control.position sweep
    → Lessens s (plain_sweep sweep)
swept s sweeping.Fresh now lt is fits = looks s now lt is
swept s (sweeping.Wiping j) now lt is fits =
    by_test (Lessens s) (nat_lt j 6) event.Wipe event.Free
    (λ h. wipes s j now lt is (ltb-true j 6 h)) (λ h. frees s j now lt is fits.1)
swept s sweeping.BlackFound now lt is fits = whitens s now lt is
swept s sweeping.Done now lt is fits = advances s now lt is

scanning : (s : State) (x : Scanning) (child : Option ℕ) → IsKept s → s.control.stage ≡ stage.Trace
    → s.collector.scan ≡ Some x
    → x.child ≡ child → x.cell < s.cells → ChildFits s.cells x.next child
    → Lessens s (plain_scan x child)
scanning s x None k now under is there fits =
    by_test (Lessens s) (nat_lt x.next 5) event.Scan event.Blacken
    (λ h. scans s x now under (ltb-true x.next 5 h) is) (λ h. blackens s x k now under is there)
scanning s x (Some c) k now under is there fits = shades s x c k now under fits.0 is fits.1

traced : (s : State) (scan : Option Scanning) → IsKept s → s.control.stage ≡ stage.Trace
    → s.collector.scan ≡ scan
    → ScanFits s.cells scan → Lessens s (plain_trace s.collector s.cells scan)
traced s None k now none fits =
    by_test (Lessens s) (s.collector.cursor == s.cells)
    (if s.collector.clean then event.Post stage.Sweep else event.See 0)
    (event.See s.collector.cursor)
    (λ end. by_test (Lessens s) s.collector.clean (event.Post stage.Sweep) (event.See 0)
    (λ h. posts_sweep s now)
    (λ h. sees_again s k now none (eqb-true s.collector.cursor s.cells end) h))
    (λ on. sees s k now none)
traced s (Some x) k now under fits = scanning s x x.child k now under refl fits.0 fits.2

-- the work of a stage, where no answer is waited for
pub works_less : (s : State) (x : Stage) → IsKept s → s.control.stage ≡ x
    → Lessens s (plain_work s x)
works_less s stage.Idle k now = posts_sync1 s k now
works_less s stage.Sync1 k now = posts_clear s now
works_less s stage.Clear k now =
    by_test (Lessens s) (nat_lt s.collector.cursor s.cells) event.ClearCell
    (event.Post stage.Sync2)
    (λ h. clears s now (ltb-true s.collector.cursor s.cells h)) (λ h. posts_sync2 s k now)
works_less s stage.Sync2 k now =
    by_test (Lessens s) s.collector.anchor_marked (event.Post stage.Trace) event.Anchor
    (λ h. posts_trace s k now) (λ h. marks s now h)
works_less s stage.Trace k now =
    traced s s.collector.scan k now refl k.range.shape.names_fit.scan_fits
works_less s stage.Sweep k now =
    by_test (Lessens s) (s.control.position == s.cells) (event.Post stage.Idle)
    (plain_sweep s.collector.sweep) (λ h. posts_idle s now)
    (λ h. swept s s.collector.sweep now
    (swept_below s.cells s.control.position s.collector.sweep (sweep_fits s k now)
    (eqb-false s.control.position s.cells h)) refl (sweep_fits s k now))

-- How much there can be left, on the way of a cycle or not.

stage_few : (s : State) (x : Stage) → IsKept s
    → stage_left s x ≤ whole_cycle s.cells s.mutators + s.cells + 11
stage_few s stage.Idle k = omega arith
stage_few s stage.Sync1 k =
    let some = count_by-le-length not s.collector.answered in
    let all = k.range.shape.mutators_fit.answered_fit in
    few _ s.mutators s.cells (whole_clear s.cells s.mutators) (omega arith)
  where
    few : (u m cells rest : ℕ) → u ≤ m
        → 2 * u + 1 + rest ≤ 1 + (2 * m + 1 + rest) + cells + 11
    few u m cells rest less = omega arith
stage_few s stage.Clear k =
    few s.mutators s.cells s.collector.cursor (whole_sync2 s.cells s.mutators)
  where
    few : (m cells cursor rest : ℕ)
        → (cells - cursor) + 1 + rest ≤ 1 + (2 * m + 1 + (cells + 1 + rest)) + cells + 11
    few m cells cursor rest = omega arith
stage_few s stage.Sync2 k =
    let some = count_by-le-length not s.collector.answered in
    let all = k.range.shape.mutators_fit.answered_fit in
    few _ s.mutators s.cells s.collector.anchor_marked (whole_trace s.cells s.mutators)
    (omega arith)
  where
    few : (u m cells : ℕ) (marked : Bool) (rest : ℕ) → u ≤ m
        → 2 * u + anchor_left marked + 1 + rest
        ≤ 1 + (2 * m + 1 + (cells + 1 + (2 * m + 2 + rest))) + cells + 11
    few u m cells true rest less = omega arith
    few u m cells false rest less = omega arith
stage_few s stage.Trace k =
    let some = count_by-le-length not s.collector.answered in
    let all = k.range.shape.mutators_fit.answered_fit in
    let fit = k.range.shape.cells_fit.colours_fit in
    let coloured = count_by-le-length is_left s.colours in
    few _ s.mutators s.cells _ (s.cells * (s.cells + 12)) (whole_sweep s.cells) (omega arith)
    (trace_most s.cells (cells_left s.colours) s.collector.clean s.collector.cursor
    s.collector.scan (omega arith))
  where
    few : (u m cells a square rest : ℕ) → u ≤ m → a ≤ square + 2 * cells + 11
        → 2 * u + a + 1 + rest
        ≤ 1 + (2 * m + 1 + (cells + 1 + (2 * m + 2 + (2 * m + (square + cells) + 1 + rest))))
        + cells + 11
    few u m cells a square rest less most = omega arith
stage_few s stage.Sweep k = few s.mutators s.cells s.control.position
    (place_done s.collector.sweep) (s.cells * (s.cells + 12))
  where
    few : (m cells position done square : ℕ)
        → (9 * (cells - position) - done) + 1
        ≤ 1 + (2 * m + 1 + (cells + 1 + (2 * m + 2 + (2 * m + (square + cells) + 1
        + (9 * cells + 1))))) + cells + 11
    few m cells position done square = omega arith

pub left_few : (s : State) → IsKept s → left s ≤ whole_cycle s.cells s.mutators + s.cells + 11
left_few s k =
    let now = left_at s s.control.stage refl in
    let few = stage_few s s.control.stage k in
    omega arith
