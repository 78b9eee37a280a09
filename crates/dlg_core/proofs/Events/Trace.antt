-- See, Scan and Shade: tracing.
--
-- See      a pass that starts over has the whole heap ahead of it; a cell that is not gray may be
--          passed by; a gray one is scanned with all its fields open, so nothing is cut off that
--          was not.
-- Scan     one field more is scanned. It holds no cell, or its cell is the child.
-- Shade    the child is shaded, and its field counted as scanned before.
use Rattle.std.proofs.Common.{◌≡◌, ◌≢◌, ◌==◌, ◌&&◌, ◌⊎◌, if◌then◌else◌, inl, inr, ℕ, Bool, true}
use Rattle.std.proofs.Common.{false, not, nat_lt, Option, Some, None, is_none, ◌+◌, ◌<◌, ◌≤◌, arith}
use Rattle.std.proofs.Common.{refl, sym, subst, ◌∙◌, ap}
use Rattle.std.proofs.lemmas.Bool.{and_parts, ltb-true, eqb-true, cases_lt, cases_order}
use Rattle.cell_words.specs.declared.colours.Colour.{Colour}
use Rattle.cell_words.specs.declared.colours.Colour.TheVariants as colour
use Rattle.cell_words.specs.declared.controls.Stage.TheVariants as stage
use Rattle.cell_words.specs.declared.fields.Field.{Field}
use Rattle.cell_words.specs.declared.fields.Field.TheVariants as field
use Rattle.core_machine.specs.declared.events.Event.TheVariants as event
use Rattle.core_machine.specs.declared.progress.Scanning.{Scanning}
use Rattle.core_machine.specs.Collector.{Collector, restarted, seen, passed, scanning_from, scanned}
use Rattle.core_machine.specs.Collector.{scan_shaded, on_scan}
use Rattle.core_machine.specs.State.{State, colour_of, field_of}
use Rattle.core_machine.specs.Tracing.{may_scan, may_shade, scan_or_none, child_or_anchor}
use Rattle.core_machine.specs.InRange.{IsShaped}
use Rattle.core_machine.specs.Next.{can, after}
use Rattle.core_machine.proofs.Conditions.{see_needs}
use Rattle.dlg_core.specs.Consistent.{IsConsistent, CleanPass, IsCutOff, IsScan}
use Rattle.dlg_core.specs.Facts.{is_live, live, unswept, is_open, scanned_count, scanned_count_at}
use Rattle.dlg_core.specs.Facts.{child_in, all_in, is_cleared}
use Rattle.dlg_core.proofs.Changes.Pass.{pass_kept, with_scan, open_not_scanned}
use Rattle.dlg_core.proofs.Changes.Shade.{with_shade, shade_kept, shaded_there}
use Rattle.dlg_core.proofs.Truths.{no_scan_is}

-- See.

-- the pass goes on, while no cell is under scan
pub pass_goes_on : (s : State) (cursor : ℕ) (clean : Bool) → IsConsistent s
    → s.control.stage ≡ stage.Trace
    → all_in s.collector.answered ≡ true → s.collector.scan ≡ None
    → CleanPass s.control.stage clean cursor s.colours
    → IsConsistent (record s { collector = record s.collector { cursor = cursor; clean = clean } })
pass_goes_on s cursor clean k now all rests pass =
    pass_kept s s.collector.answered s.collector.anchor_marked cursor clean s.collector.scan k
    record {
      answers = k.mutators.answered;
      child_live = k.cells.child_live;
      tracing = record {
        cleared = (λ c h. absurd
            (let never : is_cleared stage.Trace cursor c
            ≡ true = subst (λ x. is_cleared x cursor c ≡ true) now h in cc));
        anchor_marked = k.tracing.anchor_marked;
        traced = k.tracing.traced;
        clean_pass = pass;
        pass_waits = (λ _ waits. absurd cc);
        scans = (λ x e. absurd cc);
      };
    }

-- all fields are open at the start of a scan
pub open_at_start : (cell c f : ℕ) → is_open (Some (scanning_from cell)) c f ≡ true
open_at_start cell c f =
    elim (nat_lt f 0) as (λ b. nat_lt f 0 ≡ b → not ((c == cell) && b) ≡ true) [
      | true ↦ λ h. absurd (let lt = ltb-true f 0 h in omega arith)
      | false ↦ λ h. elim (c == cell) as (λ b. not (b && false) ≡ true)
          [ true ↦ refl | false ↦ refl ]
    ] refl

-- the scan of a gray cell begins
pub scan_begins : (s : State) (c : ℕ) → IsConsistent s → s.control.stage ≡ stage.Trace
    → all_in s.collector.answered ≡ true → s.collector.scan ≡ None → colour_of s c ≡ colour.Gray
    → IsConsistent
    (record s
    { collector = record s.collector { clean = false; scan = Some (scanning_from c) } })
scan_begins s c k now all rests gray =
    pass_kept s s.collector.answered s.collector.anchor_marked s.collector.cursor false
    (Some (scanning_from c)) k record {
      answers = k.mutators.answered;
      child_live = (λ d e. absurd cc);
      tracing = record {
        cleared = k.tracing.cleared;
        anchor_marked = k.tracing.anchor_marked;
        traced = (λ trace set cut.
            let before : IsCutOff s.owns s.colours s.rows s.collector.scan set = record {
              white = cut.white;
              child = (λ d e. absurd
                  (let none : child_in s.collector.scan ≡ None = ap child_in rests in cc));
              gray = (λ d e f g unread n sure. cut.gray d e f g (open_at_start c d f) n sure);
              outside = cut.outside;
            } in
            let old = k.tracing.traced trace set before in record {
              black = old.black;
              scanned = (λ x d f e lt n. absurd (
                  let same : scanning_from c ≡ x = cc in
                  let none : f < 0 = subst (λ y. f < scanned_count y)
                  (sym same) lt in omega arith));
              held = old.held;
              doubtful = old.doubtful;
            });
        clean_pass = (λ _ clean. absurd cc);
        pass_waits = k.tracing.pass_waits;
        scans = (λ x e. let same : scanning_from c ≡ x = cc in
            subst (λ y. IsScan s.control.stage s.collector.answered false s.colours y) same
            record { traces = now; answers = all; gray = gray; unclean = refl });
      };
    }

-- a pass that starts over is as clean as can be
pub restart_kept : (s : State) → IsConsistent s → s.control.stage ≡ stage.Trace
    → all_in s.collector.answered ≡ true
    → s.collector.scan ≡ None
    → IsConsistent (record s { collector = restarted s.collector s.cells })
restart_kept s k now all rests =
    elim ((s.collector.cursor == s.cells) && not s.collector.clean)
    as (λ b. IsConsistent (record s {
      collector = if b then record s.collector { cursor = 0; clean = true } else s.collector;
    })) [
      | true ↦ pass_goes_on s 0 true k now all rests (λ _ _ c gray. (c, omega arith, gray))
      | false ↦ k
    ]

-- a cell that is not gray is passed by
pub pass_on : (s : State) (c : ℕ) → IsConsistent s → s.control.stage ≡ stage.Trace
    → all_in s.collector.answered ≡ true
    → s.collector.scan ≡ None → colour_of s c ≢ colour.Gray
    → IsConsistent (record s { collector = passed s.collector c })
pass_on s c k now all rests plain =
    elim (c == s.collector.cursor) as (λ b. (c == s.collector.cursor) ≡ b → IsConsistent (record s {
      collector = if b then record s.collector { cursor = s.collector.cursor + 1 } else s.collector;
    })) [
      | true ↦ λ e. pass_goes_on s (s.collector.cursor + 1) s.collector.clean k now all rests
          (λ trace clean d gray.
          let r = k.tracing.clean_pass trace clean d gray in
          let same : c ≡ s.collector.cursor = eqb-true c s.collector.cursor e in
          let apart : r.0 ≢
          s.collector.cursor = (λ here.
          plain (subst (λ n. colour_of s n ≡ colour.Gray) (here ∙ sym same) r.2)) in
          let le = r.1 in
          (r.0, omega arith, r.2))
      | false ↦ λ e. k
    ] refl

pub seen_kept : (s : State) (c : ℕ) (x : Colour) → IsConsistent s → s.control.stage ≡ stage.Trace
    → all_in s.collector.answered ≡ true
    → s.collector.scan ≡ None → colour_of s c ≡ x
    → IsConsistent (record s { collector = seen s.collector c x })
seen_kept s c colour.Blue k now all rests e = pass_on s c k now all rests (λ g. absurd cc)
seen_kept s c colour.White k now all rests e = pass_on s c k now all rests (λ g. absurd cc)
seen_kept s c colour.Gray k now all rests e = scan_begins s c k now all rests e
seen_kept s c colour.Black k now all rests e = pass_on s c k now all rests (λ g. absurd cc)

-- a restart leaves who has answered, and the scan
pub restarted_same : (c : Collector) (cells : ℕ)
    → ((restarted c cells).answered ≡ c.answered) × ((restarted c cells).scan ≡ c.scan)
restarted_same c cells =
    elim ((c.cursor == cells) && not c.clean) as (λ b.
    ((if b then record c { cursor = 0; clean = true } else c).answered ≡ c.answered)
    × ((if b then record c { cursor = 0; clean = true } else c).scan ≡ c.scan)) [
      | true ↦ (refl, refl)
      | false ↦ (refl, refl)
    ]

pub see_keeps : (s : State) (c : ℕ) → IsConsistent s → can s (event.See c) ≡ true
    → IsConsistent (after s (event.See c))
see_keeps s c k h =
    let needs = see_needs s c h in
    let now = needs.now in
    let rests = no_scan_is s.collector.scan needs.no_scan in
    let same = restarted_same s.collector s.cells in
    let t = record s { collector = restarted s.collector s.cells } in
    seen_kept t c (colour_of s c) (restart_kept s k now needs.answered rests) now
    (ap all_in same.0 ∙ needs.answered) (same.1 ∙ rests) refl

-- Scan and Shade.

-- what a scan that is a step further owes
pub record FurtherFits (s : State) (x y : Scanning) : Type 0 where
  pub same_cell : y.cell ≡ x.cell
  pub child_live : (d : ℕ) → y.child ≡ Some d → live s.colours s.control s.collector.sweep d ≡ true
  -- the child that was is in no set that is cut off from the further scan
  pub child : (set : ℕ → Bool) → IsCutOff s.owns s.colours s.rows (Some y) set → (d : ℕ)
      → x.child ≡ Some d → set d ≡ false
  -- nor is what stands in a field that was open and is scanned now
  pub between : (set : ℕ → Bool) → IsCutOff s.owns s.colours s.rows (Some y) set → (f d : ℕ)
      → field_of s x.cell f ≡ field.Cell d
      → ((f < scanned_count x) ⊎ (scanned_count y ≤ f)) ⊎ (set d ≡ false)
  pub count : scanned_count x ≤ scanned_count y

-- a field of the cell under scan is open from the scanned ones on
pub open_from : (x : Scanning) (c f : ℕ) → scanned_count x ≤ f → is_open (Some x) c f ≡ true
open_from x c f le =
    elim (nat_lt f (scanned_count x))
    as (λ b. nat_lt f (scanned_count x) ≡ b → not ((c == x.cell) && b) ≡ true) [
      | true ↦ λ h. absurd (let lt = ltb-true f (scanned_count x) h in omega arith)
      | false ↦ λ h. elim (c == x.cell) as (λ b. not (b && false) ≡ true)
          [ true ↦ refl | false ↦ refl ]
    ] refl

-- a field of another cell is open
pub open_away : (x y : Scanning) (c f : ℕ) → y.cell ≡ x.cell → (c == x.cell) ≡ false
    → is_open (Some y) c f ≡ true
open_away x y c f same other =
    ap (λ b. not (b && nat_lt f (scanned_count y))) (ap (λ m. c == m) same ∙ other)

pub further_kept : (s : State) (x y : Scanning) → IsConsistent s → s.collector.scan ≡ Some x
    → FurtherFits s x y
    → IsConsistent (with_scan s (Some y))
further_kept s x y k is fits =
    pass_kept s s.collector.answered s.collector.anchor_marked s.collector.cursor s.collector.clean
    (Some y) k record {
      answers = k.mutators.answered;
      child_live = fits.child_live;
      tracing = record {
        cleared = k.tracing.cleared;
        anchor_marked = k.tracing.anchor_marked;
        traced = (λ trace set cut.
            let before : IsCutOff s.owns s.colours s.rows s.collector.scan set = subst
            (λ z. IsCutOff s.owns s.colours s.rows z set) (sym is) record {
              white = cut.white;
              child = fits.child set cut;
              gray = (λ c d f gray unread n sure. elim (c == x.cell)
                  as (λ b. (c == x.cell) ≡ b → set d ≡ false) [
                    | true ↦ λ e.
                        let here : c ≡ x.cell = eqb-true c x.cell e in
                        let n2 : field_of s x.cell f
                        ≡ field.Cell d = subst (λ m. field_of s m f ≡ field.Cell d) here n in
                        let le = open_not_scanned x f
                        (subst (λ m. is_open (Some x) m f ≡ true) here unread) in
                        elim (fits.between set cut f d n2) [
                          | inl known ↦ elim known [
                            | inl lt ↦ absurd (omega arith)
                            | inr on ↦ cut.gray c d f gray (open_from y c f on) n sure
                          ]
                          | inr out ↦ out
                        ]
                    | false ↦ λ e.
                        cut.gray c d f gray (open_away x y c f fits.same_cell e) n sure
                  ] refl);
              outside = cut.outside;
            } in
            let old = k.tracing.traced trace set before in record {
              black = old.black;
              scanned = (λ z d f e lt n.
                  let same : y ≡ z = cc in
                  let lt2 : f < scanned_count y = subst (λ v. f < scanned_count v) (sym same) lt in
                  let n2 : field_of s x.cell f ≡ field.Cell d
                  = subst (λ m. field_of s m f ≡ field.Cell d)
                  (ap (λ v. v.cell) (sym same) ∙ fits.same_cell) n in
                  elim (fits.between set cut f d n2) [
                    | inl known ↦ elim known [
                      | inl below ↦ old.scanned x d f is below n2
                      | inr on ↦ absurd (omega arith)
                    ]
                    | inr out ↦ out
                  ]);
              held = old.held;
              doubtful = old.doubtful;
            });
        clean_pass = k.tracing.clean_pass;
        pass_waits = k.tracing.pass_waits;
        scans = (λ z e.
            let same : y ≡ z = cc in
            let r = k.tracing.scans x is in record {
              traces = r.traces;
              answers = r.answers;
              gray = subst (λ m. colour_of s m ≡ colour.Gray)
                  (sym fits.same_cell ∙ ap (λ v. v.cell) same) r.gray;
              unclean = r.unclean;
            });
      };
    }

-- where it holds no cell
pub passed_fits : (s : State) (x : Scanning) → IsConsistent s → x.child ≡ None
    → ((d : ℕ) → field_of s x.cell x.next ≢ field.Cell d)
    → FurtherFits s x (record x { next = x.next + 1 })
passed_fits s x k none nothing =
    let count : scanned_count x ≡ x.next = ap (scanned_count_at x.next) none in
    let next : scanned_count (record x { next = x.next + 1 })
    ≡ x.next + 1 = ap (scanned_count_at (x.next + 1)) none in
    record {
      same_cell = refl;
      child_live = (λ d h. absurd cc);
      child = (λ set cut d h. absurd cc);
      between = (λ set cut f d n. elim (cases_order f x.next) [
        | inl same ↦ absurd (nothing d (subst (λ m. field_of s x.cell m ≡ field.Cell d) same n))
        | inr other ↦ elim other [
          | inl lt ↦ inl (inl (omega arith))
          | inr gt ↦ inl (inr (omega arith))
        ]
      ]);
      count = omega arith;
    }

-- the scan after its next field was loaded
pub scanned_fits : (s : State) (x : Scanning) (found : Field) → IsConsistent s
    → s.collector.scan ≡ Some x → x.child ≡ None
    → field_of s x.cell x.next ≡ found → FurtherFits s x (scanned x found)
scanned_fits s x field.Null k is none e = passed_fits s x k none (λ d n. absurd cc)
scanned_fits s x (field.Num n) k is none e = passed_fits s x k none (λ d m. absurd cc)
scanned_fits s x (field.Cell w) k is none e =
    let count : scanned_count x ≡ x.next = ap (scanned_count_at x.next) none in
    let alive : live s.colours s.control s.collector.sweep x.cell ≡ true
    = subst (λ z. is_live z (unswept s.control s.collector.sweep x.cell) ≡ true)
    (sym (k.tracing.scans x is).gray) refl in
    record {
      same_cell = refl;
      child_live = (λ d h. let same : w ≡ d = cc in
          subst (λ n. live s.colours s.control s.collector.sweep n ≡ true) same
          (k.cells.names_live x.cell w x.next alive e).0);
      child = (λ set cut d h. absurd cc);
      between = (λ set cut f d n. elim (cases_order f x.next) [
        | inl same ↦ inr (cut.child d (let is_w : field.Cell w ≡ field.Cell d
            = sym e ∙ subst (λ m. field_of s x.cell m ≡ field.Cell d) same n in cc))
        | inr other ↦ elim other [
          | inl lt ↦ inl (inl (omega arith))
          | inr gt ↦ inl (inr (omega arith))
        ]
      ]);
      count = omega arith;
    }

pub no_child_is : (child : Option ℕ) → is_none child ≡ true → child ≡ None
no_child_is None h = refl
no_child_is (Some c) h = absurd cc

pub scan_at : (s : State) (scan : Option Scanning) → IsConsistent s → s.collector.scan ≡ scan
    → may_scan scan ≡ true
    → IsConsistent
    (with_scan s
    (on_scan (λ x. scanned x (field_of s (scan_or_none scan).cell (scan_or_none scan).next))
    scan))
scan_at s None k is h = absurd cc
scan_at s (Some x) k is h =
    let r = and_parts _ _ h in
    further_kept s x (scanned x (field_of s x.cell x.next)) k is
    (scanned_fits s x (field_of s x.cell x.next) k is (no_child_is x.child r.1) refl)

pub scan_keeps : (s : State) → IsConsistent s → can s event.Scan ≡ true
    → IsConsistent (after s event.Scan)
scan_keeps s k h = scan_at s s.collector.scan k refl h

-- the scan after its child was shaded
pub shaded_fits : (s : State) (x : Scanning) (w : ℕ) → x.child ≡ Some w
    → colour_of s w ≢ colour.White
    → FurtherFits s x (scan_shaded x)
shaded_fits s x w child dark =
    let count : scanned_count x ≡ x.next + 1 = ap (scanned_count_at x.next) child in
    record {
      same_cell = refl;
      child_live = (λ d h. absurd cc);
      child = (λ set cut d h. let same : w ≡ d = cc in
          elim (set d) as (λ b. set d ≡ b → set d ≡ false) [
            | true ↦ λ in_set. absurd
                (dark (subst (λ n. colour_of s n ≡ colour.White) (sym same) (cut.white d in_set)))
            | false ↦ λ out. out
          ] refl);
      between = (λ set cut f d n. elim (cases_lt f (x.next + 1)) [
        | inl lt ↦ inl (inl (omega arith))
        | inr ge ↦ inl (inr ge)
      ]);
      count = omega arith;
    }

pub shade_at : (s : State) (x : Scanning) (child : Option ℕ) → IsShaped s → IsConsistent s
    → s.collector.scan ≡ Some x
    → x.child ≡ child → not (is_none child) ≡ true
    → IsConsistent (with_scan (with_shade s (child_or_anchor child)) (Some (scan_shaded x)))
shade_at s x None range k is e h = absurd cc
shade_at s x (Some w) range k is e h =
    let unclean = (k.tracing.scans x is).unclean in
    let t = with_shade s w in
    let shady = shade_kept s w range k (k.cells.child_live w (ap child_in is ∙ e))
    (λ now clean. absurd cc) in
    further_kept t x (scan_shaded x) shady is (shaded_fits t x w e (shaded_there s w))

pub shade_with : (s : State) (scan : Option Scanning) → IsShaped s → IsConsistent s
    → s.collector.scan ≡ scan → may_shade scan ≡ true
    → IsConsistent
    (with_scan (with_shade s (child_or_anchor (scan_or_none scan).child))
    (on_scan scan_shaded scan))
shade_with s None range k is h = absurd cc
shade_with s (Some x) range k is h = shade_at s x x.child range k is refl h

pub shade_keeps : (s : State) → IsShaped s → IsConsistent s → can s event.Shade ≡ true
    → IsConsistent (after s event.Shade)
shade_keeps s range k h = shade_with s s.collector.scan range k refl h
