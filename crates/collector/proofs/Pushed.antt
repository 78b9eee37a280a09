-- The scan of a cell, and its children on the mark stack: pushed after the scan they stand there as
-- if each had been pushed when it was shaded.
use Rattle.std.proofs.Common.{◌≡◌, ◌+◌, ◌++◌, ℕ, Option, Some, List, [], ◌∷◌}
use Rattle.std.proofs.Common.{refl, sym, ◌∙◌, ap, subst}
use Rattle.std.proofs.lemmas.List.{append_assoc}
use Rattle.cell_heap.specs.Runs.{TellsAll}
use Rattle.cell_heap.specs.Scans.{Loaded, blackens, child_in, children_in, scan_field, scan_over}
use Rattle.cell_heap.specs.Telling.{collector_tells}
use Rattle.cell_words.specs.declared.colours.Colour.{Colour}
use Rattle.cell_words.specs.declared.fields.Field.{Field}
use Rattle.cell_words.specs.declared.fields.Field.TheVariants as field
use Rattle.core_machine.specs.Collector.{on_scan, scan_shaded, scanned}
use Rattle.core_machine.specs.declared.events.Event.TheVariants as event
use Rattle.core_machine.specs.declared.events.Found.TheVariants as finds
use Rattle.core_machine.specs.declared.events.Taken.{Taken}
use Rattle.core_machine.specs.declared.progress.Scanning.{Scanning}
use Rattle.heap_rule.specs.Rule.{took}
use Rattle.heap_table.specs.Seats.{SeatView}
use Rattle.collector.specs.Bound.{Bound, part_of, scan_at, takes}
use Rattle.collector.specs.Counting.{Does, plus, scans_one, shades_one}
use Rattle.collector.specs.Pushes.{all_pushed, child_pushed, with_all, with_child}
use Rattle.collector.specs.Stack.{Stack, has_room, pushed}
use Rattle.collector.specs.declared.report.CycleReport.{CycleReport}
use Rattle.collector.proofs.Joining.{does_after, does_and, does_one, does_still, does_then}
use Rattle.collector.proofs.Scanning.{child_is, does_shade}

module _ {P : Type 0} where
  tells_rest : (a s : SeatView P) (x : Taken) (xs : List Taken) → TellsAll a (x ∷ xs) s
      → TellsAll (collector_tells a x.event x.found) xs s
  tells_rest a s x xs told = told.1

  -- One field was scanned, and the child in it pushed; events of the seat follow.
  record FieldScanned (r : CycleReport) (cell f : ℕ) (value : Field) (rest : List Taken)
      (first before : Bound P) (last : SeatView P) : Type 0 where
    next : Bound P
    does : Does (with_child r (child_in value) before.stack) first next
    told : TellsAll next.seat rest last
    scan : (part_of next).scan ≡ Some (scan_at cell (f + 1))
    heap : next.heap ≡ before.heap
    stack : next.stack ≡ child_pushed (child_in value) before.stack

  does_field : (value : Field) (shade : Colour) (r : CycleReport) (cell f : ℕ)
      (rest : List Taken) (o a : Bound P) (s : SeatView P)
      → (part_of a).scan ≡ Some (scan_at cell f) → Does r o a
      → TellsAll a.seat (scan_field (record { value = value; shade = shade }) ++ rest) s
      → FieldScanned r cell f value rest o a s
  does_field field.Null shade r cell f rest o a s scan does told =
      let found = finds.Field field.Null in
      let m = takes a event.Scan found in
      record {
        next = m;
        does = does_and r o a m does (does_still a m event.Scan found refl refl refl told.0);
        told = told.1;
        scan = ap (λ (x : Option Scanning). on_scan (λ (t : Scanning). scanned t field.Null) x)
            scan;
        heap = refl;
        stack = refl;
      }
  does_field (field.Num n) shade r cell f rest o a s scan does told =
      let found = finds.Field (field.Num n) in
      let m = takes a event.Scan found in
      record {
        next = m;
        does = does_and r o a m does (does_still a m event.Scan found refl refl refl told.0);
        told = told.1;
        scan = ap (λ (x : Option Scanning). on_scan (λ (t : Scanning). scanned t (field.Num n)) x)
            scan;
        heap = refl;
        stack = refl;
      }
  does_field (field.Cell child) shade r cell f rest o a s scan does told =
      let found = finds.Field (field.Cell child) in
      let m = takes a event.Scan found in
      let d = takes m event.Shade (finds.Colour shade) in
      let e : Bound P = record d { stack = pushed child d.stack } in
      let one = took event.Shade (finds.Colour shade) in
      let shaded = tells_rest a.seat s (took event.Scan found) (one ∷ rest) told in
      record {
        next = e;
        does = does_then r (shades_one (has_room a.stack)) o a e does
            (does_after (shades_one (has_room a.stack)) a m e
            (does_still a m event.Scan found refl refl refl told.0)
            (does_shade m d e child (has_room d.stack) shade (child_is a m cell f child scan refl)
            refl shaded.0 refl refl));
        told = tells_rest m.seat s one rest shaded;
        scan = ap (λ (x : Option Scanning).
            on_scan scan_shaded (on_scan (λ (t : Scanning). scanned t (field.Cell child)) x)) scan;
        heap = refl;
        stack = refl;
      }

  -- and so all of them, up to the end of the scan
  pub does_scan : (xs : List Loaded) (r : CycleReport) (cell f : ℕ) (o a b : Bound P)
      → (part_of a).scan ≡ Some (scan_at cell f) → Does r o a → b.heap ≡ a.heap
      → b.stack ≡ all_pushed (children_in xs) a.stack
      → TellsAll a.seat (scan_over xs ++ blackens) b.seat
      → Does (plus (with_all r (children_in xs) a.stack) scans_one) o b
  does_scan [] r cell f o a b scan does heap stack told =
      does_then r scans_one o a b does
      (does_one scans_one a b event.Blacken finds.Stored
      (λ j. record { heap = heap j; seat = told.1 j; stack = stack j }) told.0 refl
      (record {
        on = refl;
        answers = (tt, tt);
        comes = record {
          leads = refl;
          passes_are = refl;
          scanned_are = refl;
          freed_are = refl;
          stacked_are = refl;
          spilled_are = refl;
          straight = refl;
        };
      }))
  does_scan (x ∷ xs) r cell f o a b scan does heap stack told =
      let rest = scan_over xs ++ blackens in
      let one = does_field x.value x.shade r cell f rest o a b.seat scan does
      (subst (λ (ts : List Taken). TellsAll a.seat ts b.seat)
      (append_assoc (scan_field x) (scan_over xs) blackens) told) in
      let so_far = with_child r (child_in x.value) a.stack in
      subst (λ (s : Stack). Does (plus (with_all so_far (children_in xs) s) scans_one) o b)
      one.stack
      (does_scan xs so_far cell (f + 1) o one.next b one.scan one.does (heap ∙ sym one.heap)
      (stack ∙ ap (λ (s : Stack). all_pushed (children_in xs) s) (sym one.stack)) one.told)
