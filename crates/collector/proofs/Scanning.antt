-- Looks and shaded children, as the trail shows what stands on the stack.
use Rattle.std.proofs.Common.{◌≡◌, ◌+◌, ◌==◌, ◌&&◌, ℕ, Bool, true, false, not, cond, [], ◌∷◌}
use Rattle.std.proofs.Common.{Some, refl, sym, ◌∙◌, ap, subst, arith, eq-eqb}
use Rattle.cell_heap.specs.Telling.{FindsKnown}
use Rattle.cell_words.specs.declared.colours.Colour.{Colour}
use Rattle.cell_words.specs.declared.fields.Field.TheVariants as field
use Rattle.core_machine.specs.Collector.{on_scan, restarted, scanned}
use Rattle.core_machine.specs.Tracing.{child_or_anchor, scan_or_none}
use Rattle.core_machine.specs.declared.events.Event.TheVariants as event
use Rattle.core_machine.specs.declared.events.Found.{Found}
use Rattle.core_machine.specs.declared.events.Found.TheVariants as finds
use Rattle.core_machine.specs.declared.progress.Scanning.{Scanning}
use Rattle.heap_rule.specs.Asks.{collector_state}
use Rattle.heap_rule.specs.Rule.{took}
use Rattle.collector.specs.Bound.{Bound, cells_of, part_of, scan_at, takes}
use Rattle.collector.specs.Counting.{Counts, Does, frees, passes_one, plus, shades_one}
use Rattle.collector.specs.Replay.{Work, child_in, looks_next, sees_last, work_after, work_of}
use Rattle.collector.specs.Stack.{has_room, looked_at, next_of, pushed}
use Rattle.collector.specs.declared.report.CycleReport.{CycleReport}
use Rattle.collector.proofs.Joining.{does_event}

-- A look: of what it counts for there are two cases.

look_passes : (b : Bool) → cond b 1 0 + 0 ≡ (passes_one b).passes
look_passes true = refl
look_passes false = refl

look_scanned : (b : Bool) → 0 ≡ (passes_one b).scanned
look_scanned true = refl
look_scanned false = refl

look_freed : (b : Bool) → 0 ≡ (passes_one b).freed
look_freed true = refl
look_freed false = refl

look_stacked : (b : Bool) → 0 ≡ (passes_one b).stacked
look_stacked true = refl
look_stacked false = refl

look_spilled : (b : Bool) → 0 ≡ (passes_one b).spilled
look_spilled true = refl
look_spilled false = refl

look_counts : (w : Work) (c : ℕ) (found : Found) → looks_next w (event.See c) ≡ true
    → Counts w (work_after w (took (event.See c) found))
    (passes_one (sees_last w (event.See c) found)) (took (event.See c) found ∷ [])
look_counts w c found next =
    let ends = sees_last w (event.See c) found in
    record {
      on = refl;
      answers = (tt, tt);
      comes = record {
        leads = refl;
        passes_are = look_passes ends;
        scanned_are = look_scanned ends;
        freed_are = look_freed ends;
        stacked_are = look_stacked ends;
        spilled_are = look_spilled ends;
        straight = ap (λ (b : Bool). cond (not b) 1 0 + 0) next;
      };
    }

-- a look ends a pass where the pass has come to the cell, and it is the last one
pub last_is : (cell at n cursor cells : ℕ) (ends : Bool) → ends ≡ ((cell == at) && (cell + 1 == n))
    → at ≡ cursor → n ≡ cells → ((cell == cursor) && (cell + 1 == cells)) ≡ ends
last_is cell at n cursor cells ends is at_is n_is =
    sym (is
    ∙ ap (λ (k : ℕ). (cell == k) && (cell + 1 == n)) at_is
    ∙ ap (λ (k : ℕ). (cell == cursor) && (cell + 1 == k)) n_is)

-- A shaded child.

shade_passes : (b : Bool) → 0 ≡ (shades_one b).passes
shade_passes true = refl
shade_passes false = refl

shade_scanned : (b : Bool) → 0 ≡ (shades_one b).scanned
shade_scanned true = refl
shade_scanned false = refl

shade_freed : (b : Bool) → 0 ≡ (shades_one b).freed
shade_freed true = refl
shade_freed false = refl

shade_stacked : (b : Bool) → cond b 1 0 + 0 ≡ (shades_one b).stacked
shade_stacked true = refl
shade_stacked false = refl

shade_spilled : (b : Bool) → cond (not b) 1 0 + 0 ≡ (shades_one b).spilled
shade_spilled true = refl
shade_spilled false = refl

shade_counts : (w : Work) (found : Found)
    → Counts w (work_after w (took event.Shade found)) (shades_one (has_room w.stack))
    (took event.Shade found ∷ [])
shade_counts w found =
    let room = has_room w.stack in
    record {
      on = refl;
      answers = (tt, tt);
      comes = record {
        leads = refl;
        passes_are = shade_passes room;
        scanned_are = shade_scanned room;
        freed_are = shade_freed room;
        stacked_are = shade_stacked room;
        spilled_are = shade_spilled room;
        straight = refl;
      };
    }

pub frees_too : (r : CycleReport) (n : ℕ) → r.freed ≡ 0 → record r { freed = n } ≡ plus r (frees n)
frees_too r n none =
    sym (ap (λ (k : ℕ). record (plus r (frees n)) { passes = k }) (last r.passes)
    ∙ ap (λ (k : ℕ). record (plus r (frees n)) { passes = r.passes; scanned = k }) (last r.scanned)
    ∙ ap (λ (k : ℕ). record r { freed = k; stacked = r.stacked + 0; spilled = r.spilled + 0 })
    freed
    ∙ ap (λ (k : ℕ). record r { freed = n; stacked = k; spilled = r.spilled + 0 }) (last r.stacked)
    ∙ ap (λ (k : ℕ). record r { freed = n; spilled = k }) (last r.spilled))
  where
    last : (k : ℕ) → k + 0 ≡ k
    last k = omega arith

    freed : r.freed + n ≡ n
    freed = omega (arith, none)

module _ {P : Type 0} where
  pub does_look : (a m b : Bound P) (cell : ℕ) (found : Found) (ends : Bool)
      → m ≡ record a { stack = looked_at cell a.stack } → b ≡ takes m (event.See cell) found
      → FindsKnown m.seat.me (event.See cell) found
      → cell ≡ next_of (restarted (part_of a) (cells_of a)).cursor a.stack.cells
      → sees_last (work_of a) (event.See cell) found ≡ ends → Does (passes_one ends) a b
  does_look a m b cell found ends left told known next is =
      does_event (passes_one ends) a b (event.See cell) found (collector_state m.seat.me)
      (ap (λ (x : Bound P). x.heap) told ∙ ap (λ (x : Bound P). x.heap) left)
      (ap (λ (x : Bound P). x.seat) told
      ∙ ap (λ (x : Bound P). (takes (record m { seat = x.seat }) (event.See cell) found).seat) left)
      (ap (λ (x : Bound P). x.stack) told ∙ ap (λ (x : Bound P). x.stack) left)
      (subst (λ (x : Bound P). FindsKnown x.seat.me (event.See cell) found) left known)
      (subst (λ (e : Bool). Counts (work_of a)
      (work_after (work_of a) (took (event.See cell) found)) (passes_one e)
      (took (event.See cell) found ∷ [])) is
      (look_counts (work_of a) cell found (eq-eqb cell _ next)))

  -- the child that a scan has found
  pub child_is : (a b : Bound P) (cell at child : ℕ) → (part_of a).scan ≡ Some (scan_at cell at)
      → b ≡ takes a event.Scan (finds.Field (field.Cell child)) → child_in (part_of b) ≡ child
  child_is a b cell at child scan told =
      ap (λ (x : Bound P). child_in (part_of x)) told
      ∙ ap (λ s. child_or_anchor (scan_or_none
      (on_scan (λ (t : Scanning). scanned t (field.Cell child)) s)).child) scan

  pub does_shade : (a d e : Bound P) (child : ℕ) (is_pushed : Bool) (found : Colour)
      → child_in (part_of a) ≡ child → d ≡ takes a event.Shade (finds.Colour found)
      → FindsKnown a.seat.me event.Shade (finds.Colour found)
      → is_pushed ≡ has_room d.stack → e ≡ record d { stack = pushed child d.stack }
      → Does (shades_one is_pushed) a e
  does_shade a d e child is_pushed found child_is told known room left =
      does_event (shades_one is_pushed) a e event.Shade (finds.Colour found)
      (collector_state a.seat.me)
      (ap (λ (x : Bound P). x.heap) left ∙ ap (λ (x : Bound P). x.heap) told)
      (ap (λ (x : Bound P). x.seat) left ∙ ap (λ (x : Bound P). x.seat) told)
      (ap (λ (x : Bound P). x.stack) left
      ∙ ap (λ (x : Bound P). pushed child x.stack) told
      ∙ ap (λ (c : ℕ). pushed c a.stack) (sym child_is))
      known
      (subst (λ (b : Bool). Counts (work_of a)
      (work_after (work_of a) (took event.Shade (finds.Colour found))) (shades_one b)
      (took event.Shade (finds.Colour found) ∷ []))
      (sym (room ∙ ap (λ (x : Bound P). has_room x.stack) told))
      (shade_counts (work_of a) (finds.Colour found)))
