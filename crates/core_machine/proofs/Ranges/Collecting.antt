-- The events of the collector keep the ranges. Each cell is freed at most once while the position
-- stands at it, and the position passes each cell once in a cycle: so the cycles bound the counts.
use Rattle.std.proofs.Common.{◌≡◌, ℕ, ◌+◌, ◌*◌, ◌<◌, ◌≤◌, Bool, true, false, not, ◌&&◌, ◌==◌, cond}
use Rattle.std.proofs.Common.{List, length, set, slice_index, Option, Some, None, is_none, refl}
use Rattle.std.proofs.Common.{sym, ◌∙◌, ap, subst, arith}
use Rattle.std.proofs.Math.Nat.{add-mul}
use Rattle.std.proofs.lemmas.Bool.{and_parts, ltb-true}
use Rattle.std.proofs.lemmas.List.{length-set, length-map}
use Rattle.cell_words.specs.declared.colours.Colour.{Colour}
use Rattle.cell_words.specs.declared.colours.Colour.TheVariants as colour
use Rattle.cell_words.specs.declared.controls.Control.{Control}
use Rattle.cell_words.specs.declared.controls.Stage.{Stage}
use Rattle.cell_words.specs.declared.controls.Stage.TheVariants as stage
use Rattle.cell_words.specs.declared.fields.Field.{Field}
use Rattle.cell_words.specs.declared.fields.Field.TheVariants as field
use Rattle.core_machine.specs.declared.progress.Scanning.{Scanning}
use Rattle.core_machine.specs.declared.progress.Sweeping.{Sweeping}
use Rattle.core_machine.specs.declared.progress.Sweeping.TheVariants as sweeping
use Rattle.core_machine.specs.Collector.{nobody_answered, answered_by, restarted, passed, seen}
use Rattle.core_machine.specs.Collector.{scanning_from, scanned, scan_shaded, on_scan, sweep_of}
use Rattle.core_machine.specs.Collector.{wiped, posted_control}
use Rattle.core_machine.specs.Handshakes.{post_can, post_after, duty_after, poll_after}
use Rattle.core_machine.specs.Handshakes.{answer_out_after}
use Rattle.core_machine.specs.Sweep.{is_fresh, sweep_look_can, sweep_look_after, may_wipe, wipe_can}
use Rattle.core_machine.specs.Sweep.{wipe_after, may_free, free_can, free_after, is_black_found}
use Rattle.core_machine.specs.Sweep.{whiten_can, whiten_after, advance_can, advance_after}
use Rattle.core_machine.specs.Tracing.{clear_can, clear_after, anchor_after, see_can, see_after}
use Rattle.core_machine.specs.Tracing.{scan_or_none, may_scan, scan_can, scan_after}
use Rattle.core_machine.specs.Tracing.{child_or_anchor, child_of, may_shade, shade_can, shade_after}
use Rattle.core_machine.specs.Tracing.{may_blacken, blacken_can, blacken_after}
use Rattle.core_machine.specs.InRange.{IsShaped, NamesBelow, ChildFits, ScanFits, SweepFits}
use Rattle.core_machine.specs.InRange.{StageFits, CyclesFit, ControlFits, swept_count}
use Rattle.core_machine.specs.State.{State, greatest_cycles, colour_of, field_of}
use Rattle.core_machine.specs.Words.{is_blue, shaded, cleared}
use Rattle.core_machine.proofs.Conditions.{post_idle_needs, post_sync1_needs, post_clear_needs}
use Rattle.core_machine.proofs.Conditions.{post_sync2_needs, post_trace_needs, post_sweep_needs}
use Rattle.core_machine.proofs.Conditions.{clear_needs, see_needs, sweep_look_needs, advance_needs}
use Rattle.core_machine.proofs.Ranges.Lists.{set_cases, count-set_most}
use Rattle.core_machine.proofs.Ranges.Mutators.{shaded-blue}
use Rattle.core_machine.proofs.Ranges.Parts.{presence_kept, colour_kept, colours_fit_kept}
use Rattle.core_machine.proofs.Ranges.Parts.{field_kept}

-- the collector's own part and the control change, but for the counts of freed cells
pub collecting_kept : (s : State) → IsShaped s
    → (control : Control) (answered : List Bool) (marked : Bool) (cursor : ℕ)
    (clean : Bool) (scan : Option Scanning) (sweep : Sweeping)
    → length answered ≡ s.mutators → ScanFits s.cells scan → ControlFits s.cells control sweep
    → s.collector.number_freed ≤ control.cycles * s.cells + swept_count control.position sweep
    → IsShaped (record s {
      control = control;
      collector = record s.collector {
        answered = answered;
        anchor_marked = marked;
        cursor = cursor;
        clean = clean;
        scan = scan;
        sweep = sweep;
      };
    })
collecting_kept s r control answered marked cursor clean scan sweep answered_fit scan_fits
    control_fits freed_fits = record {
      cells_fit = r.cells_fit;
      mutators_fit = record {
        rooms_fit = r.mutators_fit.rooms_fit;
        presences_fit = r.mutators_fit.presences_fit;
        owns_fit = r.mutators_fit.owns_fit;
        answered_fit = answered_fit;
      };
      names_fit = record {
        fields_fit = r.names_fit.fields_fit;
        held_fit = r.names_fit.held_fit;
        pendings_fit = r.names_fit.pendings_fit;
        scan_fits = scan_fits;
      };
      control_fits = control_fits;
      counts_fit = record {
        each_fits = r.counts_fit.each_fits;
        freed_fits = freed_fits;
        claims_fit = r.counts_fit.claims_fit;
      };
    }

-- Post.

nobody_fit : (s : State) → IsShaped s → length (nobody_answered s.collector.answered) ≡ s.mutators
nobody_fit s r = length-map s.collector.answered (λ _. false) ∙ r.mutators_fit.answered_fit

-- at the end of the sweep nothing is being swept, and every cell has been passed
swept_all : (cells position : ℕ) (sweep : Sweeping) → SweepFits cells position sweep
    → position ≡ cells
    → (sweep ≡ sweeping.Fresh) × (swept_count position sweep ≡ cells)
swept_all cells position sweeping.Fresh fits is = (refl, is)
swept_all cells position (sweeping.Wiping k) fits is = absurd (omega arith)
swept_all cells position sweeping.BlackFound fits is = absurd (omega arith)
swept_all cells position sweeping.Done fits is = absurd (omega arith)

pub post_keeps : (s : State) → IsShaped s → (target : Stage) → post_can s target ≡ true
    → IsShaped (post_after s target)
post_keeps s r stage.Idle can =
    let needs = post_idle_needs s can in
    let at = needs.now in
    let end = needs.end in
    let fits : SweepFits s.cells s.control.position s.collector.sweep =
    subst (λ (a : Stage). StageFits s.cells s.control.position s.collector.sweep a) at
    r.control_fits.stage_fits in
    let cycles : s.control.cycles < greatest_cycles =
    subst (λ (a : Stage). CyclesFit s.control.cycles a) at r.control_fits.cycles_fit in
    let swept = swept_all s.cells s.control.position s.collector.sweep fits end in
    let more : (s.control.cycles + 1) * s.cells ≡ s.control.cycles * s.cells + 1 * s.cells =
    add-mul s.control.cycles 1 s.cells in
    let once : 1 * s.cells ≡ s.cells = omega arith in
    let fresh : swept_count 0 s.collector.sweep
    ≡ 0 = ap (λ (w : Sweeping). swept_count 0 w) swept.0 in
    let number : s.collector.number_freed ≤
    (s.control.cycles + 1) * s.cells + swept_count 0 s.collector.sweep =
    omega (arith, r.counts_fit.freed_fits, swept.1, more, once, fresh) in
    collecting_kept s r
    (posted_control s.control stage.Idle) s.collector.answered s.collector.anchor_marked
    s.collector.cursor s.collector.clean s.collector.scan s.collector.sweep
    r.mutators_fit.answered_fit r.names_fit.scan_fits
    (record { stage_fits = (refl, swept.0); cycles_fit = omega arith }) number
post_keeps s r stage.Sync1 can =
    let needs = post_sync1_needs s can in
    let at = needs.now in
    collecting_kept s r (posted_control s.control stage.Sync1)
    (nobody_answered s.collector.answered) s.collector.anchor_marked
    s.collector.cursor s.collector.clean s.collector.scan s.collector.sweep
    (nobody_fit s r) r.names_fit.scan_fits
    (record {
      stage_fits = subst
          (λ (a : Stage). StageFits s.cells s.control.position s.collector.sweep a) at
          r.control_fits.stage_fits;
      cycles_fit = needs.cycles;
    })
    r.counts_fit.freed_fits
post_keeps s r stage.Clear can =
    let at = (post_clear_needs s can).now in
    collecting_kept s r
    (posted_control s.control stage.Clear) s.collector.answered s.collector.anchor_marked
    0 s.collector.clean s.collector.scan s.collector.sweep
    r.mutators_fit.answered_fit r.names_fit.scan_fits
    (record {
      stage_fits = subst
          (λ (a : Stage). StageFits s.cells s.control.position s.collector.sweep a) at
          r.control_fits.stage_fits;
      cycles_fit = subst (λ (a : Stage). CyclesFit s.control.cycles a) at r.control_fits.cycles_fit;
    })
    r.counts_fit.freed_fits
post_keeps s r stage.Sync2 can =
    let at = (post_sync2_needs s can).now in
    collecting_kept s r (posted_control s.control stage.Sync2)
    (nobody_answered s.collector.answered) false
    s.collector.cursor s.collector.clean s.collector.scan s.collector.sweep
    (nobody_fit s r) r.names_fit.scan_fits
    (record {
      stage_fits = subst
          (λ (a : Stage). StageFits s.cells s.control.position s.collector.sweep a) at
          r.control_fits.stage_fits;
      cycles_fit = subst (λ (a : Stage). CyclesFit s.control.cycles a) at r.control_fits.cycles_fit;
    })
    r.counts_fit.freed_fits
post_keeps s r stage.Trace can =
    let at = (post_trace_needs s can).now in
    collecting_kept s r (posted_control s.control stage.Trace)
    (nobody_answered s.collector.answered) s.collector.anchor_marked
    0 true s.collector.scan s.collector.sweep
    (nobody_fit s r) r.names_fit.scan_fits
    (record {
      stage_fits = subst
          (λ (a : Stage). StageFits s.cells s.control.position s.collector.sweep a) at
          r.control_fits.stage_fits;
      cycles_fit = subst (λ (a : Stage). CyclesFit s.control.cycles a) at r.control_fits.cycles_fit;
    })
    r.counts_fit.freed_fits
post_keeps s r stage.Sweep can =
    let at = (post_sweep_needs s can).now in
    let still : (s.control.position ≡ 0) × (s.collector.sweep ≡ sweeping.Fresh) =
    subst (λ (a : Stage). StageFits s.cells s.control.position s.collector.sweep a) at
    r.control_fits.stage_fits in
    let fresh : swept_count s.control.position s.collector.sweep ≡ s.control.position =
    ap (λ (w : Sweeping). swept_count s.control.position w) still.1 in
    let number : s.collector.number_freed ≤ s.control.cycles * s.cells + 0 =
    omega (arith, r.counts_fit.freed_fits, fresh, still.0) in
    collecting_kept s r
    (posted_control s.control stage.Sweep) s.collector.answered s.collector.anchor_marked
    s.collector.cursor s.collector.clean s.collector.scan sweeping.Fresh
    r.mutators_fit.answered_fit r.names_fit.scan_fits
    (record {
      stage_fits = omega arith;
      cycles_fit = subst (λ (a : Stage). CyclesFit s.control.cycles a) at r.control_fits.cycles_fit;
    })
    number

pub duty_keeps : (s : State) → IsShaped s → (on : Bool) → IsShaped (duty_after s on)
duty_keeps s r on =
    collecting_kept s r
    (record s.control { duty = on }) s.collector.answered s.collector.anchor_marked
    s.collector.cursor s.collector.clean s.collector.scan s.collector.sweep
    r.mutators_fit.answered_fit r.names_fit.scan_fits
    (record { stage_fits = r.control_fits.stage_fits; cycles_fit = r.control_fits.cycles_fit })
    r.counts_fit.freed_fits

-- The handshake.

answered_keeps : (s : State) → IsShaped s → (i : ℕ) (is_answer : Bool)
    → IsShaped (record s { collector = answered_by s.collector i is_answer })
answered_keeps s r i true =
    collecting_kept s r s.control (set s.collector.answered i true) s.collector.anchor_marked
    s.collector.cursor s.collector.clean s.collector.scan s.collector.sweep
    (length-set s.collector.answered i true ∙ r.mutators_fit.answered_fit) r.names_fit.scan_fits
    r.control_fits r.counts_fit.freed_fits
answered_keeps s r i false = r

pub poll_keeps : (s : State) → IsShaped s → (i : ℕ) → IsShaped (poll_after s i)
poll_keeps s r i = answered_keeps s r i _

pub answer_out_keeps : (s : State) → IsShaped s → (i : ℕ) (over : Bool)
    → IsShaped (answer_out_after s i over)
answer_out_keeps s r i over = answered_keeps _ (presence_kept s r i _) i _

-- Clearing and tracing.

cleared-blue : (x : Colour) → is_blue (cleared x) ≡ true → is_blue x ≡ true
cleared-blue colour.Blue is = is
cleared-blue colour.White is = is
cleared-blue colour.Gray is = is
cleared-blue colour.Black is = is

-- the collector's own part changes, but for the counts of freed cells, what has answered and the
-- sweep
tracing_kept : (s : State) → IsShaped s
    → (marked : Bool) (cursor : ℕ) (clean : Bool) (scan : Option Scanning)
    → ScanFits s.cells scan
    → IsShaped (record s {
      collector = record s.collector
          { anchor_marked = marked; cursor = cursor; clean = clean; scan = scan };
    })
tracing_kept s r marked cursor clean scan fits =
    collecting_kept s r s.control s.collector.answered marked cursor clean scan s.collector.sweep
    r.mutators_fit.answered_fit fits r.control_fits r.counts_fit.freed_fits

pub clear_keeps : (s : State) → IsShaped s → clear_can s ≡ true → IsShaped (clear_after s)
clear_keeps s r can =
    let cell = s.collector.cursor in
    let within = (clear_needs s can).cell in
    tracing_kept _
    (colour_kept s r cell (cleared (colour_of s cell)) within (cleared-blue (colour_of s cell)))
    s.collector.anchor_marked (cell + 1) s.collector.clean s.collector.scan r.names_fit.scan_fits

pub anchor_keeps : (s : State) → IsShaped s → IsShaped (anchor_after s)
anchor_keeps s r =
    tracing_kept _
    (colour_kept s r 0 (shaded (colour_of s 0)) r.cells_fit.some_cells
    (shaded-blue (colour_of s 0)))
    true s.collector.cursor s.collector.clean s.collector.scan r.names_fit.scan_fits

restarted_keeps : (s : State) → IsShaped s
    → IsShaped (record s { collector = restarted s.collector s.cells })
restarted_keeps s r =
    elim ((s.collector.cursor == s.cells) && not s.collector.clean)
    as (λ b. IsShaped
    (record s
    { collector = cond b (record s.collector { cursor = 0; clean = true }) s.collector })) [
      | true ↦ tracing_kept s r s.collector.anchor_marked 0 true s.collector.scan
          r.names_fit.scan_fits
      | false ↦ r
    ]

passed_keeps : (s : State) → IsShaped s → (c : ℕ)
    → IsShaped (record s { collector = passed s.collector c })
passed_keeps s r c =
    elim (c == s.collector.cursor)
    as (λ b. IsShaped
    (record s {
      collector = cond b
          (record s.collector { cursor = s.collector.cursor + 1 }) s.collector;
    })) [
      | true ↦ tracing_kept s r s.collector.anchor_marked
          (s.collector.cursor + 1) s.collector.clean s.collector.scan r.names_fit.scan_fits
      | false ↦ r
    ]

seen_keeps : (s : State) → IsShaped s → (c : ℕ) → c < s.cells → (found : Colour)
    → IsShaped (record s { collector = seen s.collector c found })
seen_keeps s r c within colour.Blue = passed_keeps s r c
seen_keeps s r c within colour.White = passed_keeps s r c
seen_keeps s r c within colour.Gray =
    tracing_kept s r s.collector.anchor_marked s.collector.cursor false (Some (scanning_from c))
    (within, omega arith, tt)
seen_keeps s r c within colour.Black = passed_keeps s r c

pub see_keeps : (s : State) → IsShaped s → (c : ℕ) → see_can s c ≡ true → IsShaped (see_after s c)
see_keeps s r c can =
    seen_keeps _ (restarted_keeps s r) c (see_needs s c can).cell (colour_of s c)

-- without a child the next field does not matter
no_child_fits : (n k : ℕ) (child : Option ℕ) → is_none child ≡ true → ChildFits n k child
no_child_fits n k None is = tt
no_child_fits n k (Some c) is = cc

-- the look at a field leaves a scan in range
scanned_fits : (n : ℕ) (x : Scanning) (found : Field) → ScanFits n (Some x) → x.next < 5
    → is_none x.child ≡ true
    → NamesBelow n found → ScanFits n (Some (scanned x found))
scanned_fits n x field.Null fits left none
    names = (fits.0, omega arith, no_child_fits n (x.next + 1) x.child none)
scanned_fits n x
    (field.Num k) fits left none
    names = (fits.0, omega arith, no_child_fits n (x.next + 1) x.child none)
scanned_fits n x (field.Cell c) fits left none names = (fits.0, fits.1, (left, names))

scan_fits_on : (n : ℕ) (scan : Option Scanning) (found : Field) → ScanFits n scan
    → may_scan scan ≡ true
    → NamesBelow n found → ScanFits n (on_scan (λ x. scanned x found) scan)
scan_fits_on n None found fits may names = tt
scan_fits_on n (Some x) found fits may names =
    let parts = and_parts _ _ may in
    scanned_fits n x found fits (ltb-true x.next 5 parts.0) parts.1 names

pub scan_keeps : (s : State) → IsShaped s → scan_can s ≡ true → IsShaped (scan_after s)
scan_keeps s r can =
    let x = scan_or_none s.collector.scan in
    tracing_kept s r s.collector.anchor_marked s.collector.cursor s.collector.clean _
    (scan_fits_on s.cells s.collector.scan (field_of s x.cell x.next) r.names_fit.scan_fits can
    (r.names_fit.fields_fit x.cell x.next))

-- the child is a cell that there is, and a field is left
pub child_fits : (n : ℕ) (scan : Option Scanning) → ScanFits n scan → may_shade scan ≡ true
    → (child_or_anchor (scan_or_none scan).child < n) × ScanFits n (on_scan scan_shaded scan)
child_fits n None fits may = cc
child_fits n (Some x) fits may = child_there n x x.child (fits.0) (fits.2) may
  where
    child_there : (n : ℕ) (x : Scanning) (child : Option ℕ) → x.cell < n → ChildFits n x.next child
        → not (is_none child) ≡ true
        → (child_or_anchor child < n) × ScanFits n (Some (scan_shaded x))
    child_there n x None cell fits some = cc
    child_there n x (Some c) cell fits some = (fits.1, (cell, omega arith, tt))

pub shade_keeps : (s : State) → IsShaped s → shade_can s ≡ true → IsShaped (shade_after s)
shade_keeps s r can =
    let child = child_of s in
    let fits = child_fits s.cells s.collector.scan r.names_fit.scan_fits can in
    tracing_kept _
    (colour_kept s r child (shaded (colour_of s child)) fits.0
    (shaded-blue (colour_of s child)))
    s.collector.anchor_marked s.collector.cursor s.collector.clean _ fits.1

pub scan_cell_below : (n : ℕ) (scan : Option Scanning) → ScanFits n scan → may_blacken scan ≡ true
    → (scan_or_none scan).cell < n
scan_cell_below n None fits may = cc
scan_cell_below n (Some x) fits may = fits.0

pub blacken_keeps : (s : State) → IsShaped s → blacken_can s ≡ true → IsShaped (blacken_after s)
blacken_keeps s r can =
    let within = scan_cell_below s.cells s.collector.scan r.names_fit.scan_fits can in
    tracing_kept _
    (colour_kept s r (scan_or_none s.collector.scan).cell colour.Black within (λ is. cc))
    s.collector.anchor_marked s.collector.cursor s.collector.clean None tt

-- The sweep.

-- what is being swept is not fresh
not_still : (sweep : Sweeping) → sweep ≡ sweeping.Fresh → is_fresh sweep ≡ false → ⊥
not_still sweep still busy = let both : true ≡ false = sym (ap is_fresh still) ∙ busy in cc

-- what is being swept is swept in the stage Sweep
pub in_sweep : (n : ℕ) (control : Control) (sweep : Sweeping) → ControlFits n control sweep
    → is_fresh sweep ≡ false
    → (control.stage ≡ stage.Sweep) × SweepFits n control.position sweep
in_sweep n control sweep fits busy = by_stage control.stage fits.stage_fits
  where
    by_stage : (a : Stage) → StageFits n control.position sweep a
        → (a ≡ stage.Sweep) × SweepFits n control.position sweep
    by_stage stage.Idle fits = absurd (not_still sweep fits.1 busy)
    by_stage stage.Sync1 fits = absurd (not_still sweep fits.1 busy)
    by_stage stage.Clear fits = absurd (not_still sweep fits.1 busy)
    by_stage stage.Sync2 fits = absurd (not_still sweep fits.1 busy)
    by_stage stage.Trace fits = absurd (not_still sweep fits.1 busy)
    by_stage stage.Sweep fits = (refl, fits)

-- the sweep goes on in the stage Sweep
sweep_to : (n : ℕ) (control : Control) (old new : Sweeping) → ControlFits n control old
    → control.stage ≡ stage.Sweep
    → SweepFits n control.position new → ControlFits n control new
sweep_to n control old new fits at there = record {
  stage_fits = subst (λ (a : Stage). StageFits n control.position new a) (sym at) there;
  cycles_fit = fits.cycles_fit;
}

sweep_kept : (s : State) → IsShaped s → (sweep : Sweeping) → ControlFits s.cells s.control sweep
    → s.collector.number_freed ≤ s.control.cycles * s.cells + swept_count s.control.position sweep
    → IsShaped (record s { collector = record s.collector { sweep = sweep } })
sweep_kept s r sweep fits number =
    collecting_kept s r s.control s.collector.answered s.collector.anchor_marked s.collector.cursor
    s.collector.clean
    s.collector.scan sweep r.mutators_fit.answered_fit r.names_fit.scan_fits fits number

found_fits : (n position : ℕ) (found : Colour) → position < n
    → SweepFits n position (sweep_of found) × (position ≤ swept_count position (sweep_of found))
found_fits n position colour.Blue within = (within, omega arith)
found_fits n position colour.White within = ((within, omega arith), omega arith)
found_fits n position colour.Gray within = (omega arith, omega arith)
found_fits n position colour.Black within = (within, omega arith)

pub sweep_look_keeps : (s : State) → IsShaped s → sweep_look_can s ≡ true
    → IsShaped (sweep_look_after s)
sweep_look_keeps s r can =
    let needs = sweep_look_needs s can in
    let at = needs.now in
    let within = needs.cell in
    let found = colour_of s s.control.position in
    let fits = found_fits s.cells s.control.position found within in
    let before : swept_count s.control.position s.collector.sweep ≡ s.control.position =
    ap (λ (w : Sweeping). swept_count s.control.position w) needs.fresh in
    let number : s.collector.number_freed ≤ s.control.cycles * s.cells + swept_count
    s.control.position (sweep_of found) =
    omega (arith, r.counts_fit.freed_fits, before, fits.1) in
    sweep_kept s r (sweep_of found)
    (sweep_to s.cells s.control s.collector.sweep _ r.control_fits at fits.0) number

-- What is being wiped, or was found black, is not done yet.

wiping_fits : (n position : ℕ) (sweep : Sweeping) → may_wipe sweep ≡ true
    → SweepFits n position sweep
    → SweepFits n position (wiped sweep)
    × (swept_count position (wiped sweep) ≡ swept_count position sweep)
wiping_fits n position sweeping.Fresh may fits = cc
wiping_fits n position
    (sweeping.Wiping k) may fits = let lower : k < 6 = ltb-true k 6
    may in ((fits.0, omega arith), refl)
wiping_fits n position sweeping.BlackFound may fits = cc
wiping_fits n position sweeping.Done may fits = cc

pub wiping_busy : (sweep : Sweeping) → may_wipe sweep ≡ true → is_fresh sweep ≡ false
wiping_busy sweeping.Fresh may = cc
wiping_busy (sweeping.Wiping k) may = refl
wiping_busy sweeping.BlackFound may = cc
wiping_busy sweeping.Done may = cc

pub wipe_keeps : (s : State) → IsShaped s → wipe_can s ≡ true → IsShaped (wipe_after s)
wipe_keeps s r can =
    let at = in_sweep s.cells s.control s.collector.sweep r.control_fits
    (wiping_busy s.collector.sweep can) in
    let fits = wiping_fits s.cells s.control.position s.collector.sweep can at.1 in
    let number : s.collector.number_freed ≤ s.control.cycles * s.cells + swept_count
    s.control.position (wiped s.collector.sweep) =
    omega (arith, r.counts_fit.freed_fits, fits.1) in
    sweep_kept _ (field_kept s r s.control.position _ field.Null tt) (wiped s.collector.sweep)
    (sweep_to s.cells s.control s.collector.sweep _ r.control_fits at.0 fits.0) number

freeing_fits : (n position : ℕ) (sweep : Sweeping) → may_free sweep ≡ true
    → SweepFits n position sweep
    → (position < n) × (swept_count position sweep ≡ position)
freeing_fits n position sweeping.Fresh may fits = cc
freeing_fits n position (sweeping.Wiping k) may fits = (fits.0, refl)
freeing_fits n position sweeping.BlackFound may fits = cc
freeing_fits n position sweeping.Done may fits = cc

pub freeing_busy : (sweep : Sweeping) → may_free sweep ≡ true → is_fresh sweep ≡ false
freeing_busy sweeping.Fresh may = cc
freeing_busy (sweeping.Wiping k) may = refl
freeing_busy sweeping.BlackFound may = cc
freeing_busy sweeping.Done may = cc

pub free_keeps : (s : State) → IsShaped s → free_can s ≡ true → IsShaped (free_after s)
free_keeps s r can =
    let cell = s.control.position in
    let times = s.collector.times_freed in
    let at = in_sweep s.cells s.control s.collector.sweep r.control_fits
    (freeing_busy s.collector.sweep can) in
    let fits = freeing_fits s.cells cell s.collector.sweep can at.1 in
    let there : cell < length s.colours = subst (λ (n : ℕ). cell < n)
    (sym r.cells_fit.colours_fit) fits.0 in
    let blue = count-set_most s.colours cell colour.Blue there in
    let colours = colours_fit_kept s r cell colour.Blue in
    let number : s.collector.number_freed + 1 ≤ s.control.cycles * s.cells + (cell + 1) =
    omega (arith, r.counts_fit.freed_fits, fits.1) in
    record {
      cells_fit = record {
        some_cells = r.cells_fit.some_cells;
        colours_fit = colours.colours_fit;
        rows_fit = r.cells_fit.rows_fit;
        freed_fit = length-set times cell (slice_index times cell + 1) ∙ r.cells_fit.freed_fit;
        six_fields = r.cells_fit.six_fields;
      };
      mutators_fit = r.mutators_fit;
      names_fit = r.names_fit;
      control_fits = sweep_to s.cells s.control s.collector.sweep sweeping.Done r.control_fits at.0
          fits.0;
      counts_fit = record {
        each_fits = λ c. set_cases (λ k. k ≤ s.collector.number_freed + 1) times cell c
            (slice_index times cell + 1) 0
            (λ is within. omega (arith, r.counts_fit.each_fits cell))
            (omega (arith, r.counts_fit.each_fits c));
        freed_fits = number;
        claims_fit = λ i. omega (arith, r.counts_fit.claims_fit i, blue);
      };
    }

black_fits : (n position : ℕ) (sweep : Sweeping) → is_black_found sweep ≡ true
    → SweepFits n position sweep
    → (position < n) × (swept_count position sweep ≡ position)
black_fits n position sweeping.Fresh found fits = cc
black_fits n position (sweeping.Wiping k) found fits = cc
black_fits n position sweeping.BlackFound found fits = (fits, refl)
black_fits n position sweeping.Done found fits = cc

pub black_busy : (sweep : Sweeping) → is_black_found sweep ≡ true → is_fresh sweep ≡ false
black_busy sweeping.Fresh found = cc
black_busy (sweeping.Wiping k) found = refl
black_busy sweeping.BlackFound found = refl
black_busy sweeping.Done found = cc

pub whiten_keeps : (s : State) → IsShaped s → whiten_can s ≡ true → IsShaped (whiten_after s)
whiten_keeps s r can =
    let cell = s.control.position in
    let at = in_sweep s.cells s.control s.collector.sweep r.control_fits
    (black_busy s.collector.sweep can) in
    let fits = black_fits s.cells cell s.collector.sweep can at.1 in
    let number : s.collector.number_freed ≤ s.control.cycles * s.cells + (cell + 1) =
    omega (arith, r.counts_fit.freed_fits, fits.1) in
    sweep_kept _ (colour_kept s r cell colour.White fits.0 (λ is. cc)) sweeping.Done
    (sweep_to s.cells s.control s.collector.sweep sweeping.Done r.control_fits at.0 fits.0) number

pub advance_keeps : (s : State) → IsShaped s → advance_can s ≡ true → IsShaped (advance_after s)
advance_keeps s r can =
    let needs = advance_needs s can in
    let at = needs.now in
    let within = needs.cell in
    let before : swept_count s.control.position s.collector.sweep ≡ s.control.position + 1 =
    ap (λ (w : Sweeping). swept_count s.control.position w) needs.done in
    let number : s.collector.number_freed ≤ s.control.cycles * s.cells + (s.control.position + 1) =
    omega (arith, r.counts_fit.freed_fits, before) in
    let passed : s.control.position + 1 ≤ s.cells = omega arith in
    collecting_kept s r
    (record s.control { position = s.control.position + 1 }) s.collector.answered
    s.collector.anchor_marked s.collector.cursor s.collector.clean s.collector.scan sweeping.Fresh
    r.mutators_fit.answered_fit r.names_fit.scan_fits
    (record {
      stage_fits = subst
          (λ (a : Stage). StageFits s.cells (s.control.position + 1) sweeping.Fresh a)
          (sym at) passed;
      cycles_fit = r.control_fits.cycles_fit;
    })
    number
