-- The scan of a cell: one field, and then those after it.
use Rattle.std.proofs.Common.{◌≡◌, ◌<◌, ◌+◌, ◌++◌, ℕ, true, Option, Some, None, List, [], ◌∷◌}
use Rattle.std.proofs.Common.{refl, sym, ◌∙◌, ap, subst, arith}
use Rattle.std.proofs.lemmas.Bool.{and_from, lt-ltb}
use Rattle.std.proofs.lemmas.List.{append_assoc}
use Rattle.cell_heap.specs.Collecting.{IsCollectors}
use Rattle.cell_heap.specs.Runs.{TellsAll}
use Rattle.cell_heap.specs.Scans.{AreBelow, IsAtField, ScansField, ScansFrom, blackens, child_in}
use Rattle.cell_heap.specs.Scans.{scan_at, scan_field, scan_over, shades_child}
use Rattle.cell_heap.specs.Telling.{FindsKnown, collector_tells}
use Rattle.cell_heap.proofs.InARow.{still_of, tells_append, tells_shape}
use Rattle.cell_words.specs.declared.colours.Colour.{Colour}
use Rattle.cell_words.specs.declared.colours.Colour.TheVariants as colour
use Rattle.cell_words.specs.declared.fields.Field.{Field}
use Rattle.cell_words.specs.declared.fields.Field.TheVariants as field
use Rattle.core_machine.specs.Collector.{Collector, on_scan, scan_shaded, scanned}
use Rattle.core_machine.specs.Tracing.{may_scan}
use Rattle.core_machine.specs.declared.events.Event.TheVariants as event
use Rattle.core_machine.specs.declared.events.Found.TheVariants as finds
use Rattle.core_machine.specs.declared.events.Taken.{Taken}
use Rattle.core_machine.specs.declared.progress.Scanning.{Scanning}
use Rattle.heap_rule.specs.Shape.{Shape}
use Rattle.heap_table.specs.Seats.{HeapId, SeatView}

pub may_load : (cell f : ℕ) (scan : Option Scanning) → f < 5 → scan ≡ Some (scan_at cell f)
    → may_scan scan ≡ true
may_load cell f scan there at =
    ap (λ (s : Option Scanning). may_scan s) at ∙ and_from _ _ (lt-ltb f 5 there) refl

module _ {P : Type 0} where
  -- what a load leaves of the scan
  pub scan_loaded : (a b : SeatView P) (cell f : ℕ) (found : Field)
      → a.me.part.scan ≡ Some (scan_at cell f)
      → b ≡ collector_tells a event.Scan (finds.Field found)
      → b.me.part.scan ≡ Some (scanned (scan_at cell f) found)
  scan_loaded a b cell f found at told =
      ap (λ (x : SeatView P). x.me.part.scan) told
      ∙ ap (λ (s : Option Scanning). on_scan (λ (t : Scanning). scanned t found) s) at

  -- a field that names no cell
  pub scans_none : (a b : SeatView P) (cell f : ℕ) (found : Field) → child_in found ≡ None
      → scanned (scan_at cell f) found ≡ scan_at cell (f + 1)
      → a.me.part.scan ≡ Some (scan_at cell f)
      → b ≡ collector_tells a event.Scan (finds.Field found)
      → FindsKnown a.me event.Scan (finds.Field found) → ScansField cell f None a b
  scans_none a b cell f found none goes at told known = record {
    loaded = record { value = found; shade = colour.White };
    told = (
      known,
      subst (λ (c : Option ℕ). TellsAll (collector_tells a event.Scan (finds.Field found))
          (shades_child c colour.White) b) (sym none) told,
    );
    child_is = sym none;
    below = tt;
    control = ap (λ (x : SeatView P). x.me.control) told;
    part = ap (λ (x : SeatView P). x.me.part) told
        ∙ (λ j. record a.me.part {
          scan = (ap (λ (s : Option Scanning). on_scan (λ (t : Scanning). scanned t found) s) at
              ∙ ap Some goes) j;
        });
  }

  -- a field that names a cell, and the shading of that
  pub scans_child : (a m b : SeatView P) (cell f child : ℕ) (k : Colour)
      → a.me.part.scan ≡ Some (scan_at cell f)
      → m ≡ collector_tells a event.Scan (finds.Field (field.Cell child))
      → FindsKnown a.me event.Scan (finds.Field (field.Cell child)) → child < a.me.shape.cells
      → b ≡ collector_tells m event.Shade (finds.Colour k)
      → FindsKnown m.me event.Shade (finds.Colour k) → ScansField cell f (Some child) a b
  scans_child a m b cell f child k at told known there shaded known_too = record {
    loaded = record { value = field.Cell child; shade = k };
    told = (
      known,
      subst (λ (x : SeatView P). FindsKnown x.me event.Shade (finds.Colour k)
          × (b ≡ collector_tells x event.Shade (finds.Colour k))) told (known_too, shaded),
    );
    child_is = refl;
    below = there;
    control = ap (λ (x : SeatView P). x.me.control) shaded
        ∙ ap (λ (x : SeatView P). x.me.control) told;
    part = ap (λ (x : SeatView P). x.me.part) shaded
        ∙ ap (λ (x : SeatView P). record x.me.part { scan = on_scan scan_shaded x.me.part.scan })
        told
        ∙ (λ j. record a.me.part {
          scan = on_scan scan_shaded
              (on_scan (λ (t : Scanning). scanned t (field.Cell child)) (at j));
        });
  }

  -- after a field the scan is at the next one
  pub at_next_field : (heap : HeapId) (mutators cell f : ℕ) (child : Option ℕ) (a b : SeatView P)
      → IsAtField heap mutators cell f a → ScansField cell f child a b → IsCollectors b.me
      → IsAtField heap mutators cell (f + 1) b
  at_next_field heap mutators cell f child a b at one collector =
      let events = scan_field one.loaded in
      record {
        seat_is = still_of heap a b events at.seat_is one.told;
        collector = collector;
        mutators_are = at.mutators_are
            ∙ sym (ap (λ (h : Shape). h.mutators) (tells_shape a b events one.told));
        scan_is = ap (λ (x : Collector). x.scan) one.part;
      }

  -- The whole scan, from its end on.

  pub scans_end : (a b : SeatView P) → b ≡ collector_tells a event.Blacken finds.Stored
      → FindsKnown a.me event.Blacken finds.Stored → ScansFrom 5 [] a b
  scans_end a b told known = record {
    loaded = [];
    told = (known, told);
    many = refl;
    children_are = refl;
    below = tt;
    control = ap (λ (x : SeatView P). x.me.control) told;
    part = ap (λ (x : SeatView P). x.me.part) told;
  }

  pub scans_before : (cell f : ℕ) (child : Option ℕ) (children : List (Option ℕ))
      (a b c : SeatView P) → ScansField cell f child a b → ScansFrom (f + 1) children b c
      → ScansFrom f (child ∷ children) a c
  scans_before cell f child children a b c one rest = record {
    loaded = one.loaded ∷ rest.loaded;
    told = subst (λ (xs : List Taken). TellsAll a xs c)
        (sym (append_assoc (scan_field one.loaded) (scan_over rest.loaded) blackens))
        (tells_append a b c (scan_field one.loaded) (scan_over rest.loaded ++ blackens) one.told
        rest.told);
    many = omega (arith, rest.many);
    children_are = λ j. one.child_is j ∷ rest.children_are j;
    below = (
      one.below,
      subst (λ (h : Shape). AreBelow h.cells children)
          (tells_shape a b (scan_field one.loaded) one.told) rest.below,
    );
    control = rest.control ∙ one.control;
    part = rest.part ∙ ap (λ (x : Collector). record x { scan = None }) one.part;
  }
