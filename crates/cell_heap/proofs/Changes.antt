-- What the code keeps at hand changes as the collector's own part does.
use Rattle.std.proofs.Common.{◌≡◌, ◌==◌, ◌&&◌, ℕ, Bool, true, false, not, Option, Some, None}
use Rattle.std.proofs.Common.{refl, sym, ◌∙◌, ap, if◌then◌else◌}
use Rattle.cell_heap.specs.declared.progress.Progress.{Progress}
use Rattle.cell_heap.specs.Collecting.{IsCollector}
use Rattle.cell_heap.specs.Progress.{changed, part_of, progress_of}
use Rattle.cell_words.specs.Control.{pack_control_of}
use Rattle.cell_words.specs.declared.colours.Colour.{Colour}
use Rattle.cell_words.specs.declared.colours.Colour.TheVariants as colour
use Rattle.cell_words.specs.declared.controls.Control.{Control}
use Rattle.cell_words.specs.declared.controls.Stage.{Stage}
use Rattle.cell_words.specs.declared.controls.Stage.TheVariants as stage
use Rattle.cell_words.specs.declared.fields.Field.{Field}
use Rattle.core_machine.specs.declared.events.Event.{Event}
use Rattle.core_machine.specs.declared.progress.Scanning.{Scanning}
use Rattle.core_machine.specs.declared.progress.Sweeping.{Sweeping}
use Rattle.core_machine.specs.Collector.{Collector, answered_by, control_after, on_scan, passed}
use Rattle.core_machine.specs.Collector.{posted, restarted, scan_shaded, scanned, scanning_from}
use Rattle.core_machine.specs.Collector.{seen}
use Rattle.core_machine.specs.Tracing.{may_scan, may_shade, scan_or_none}
use Rattle.core_machine.specs.WordOperations.{Store}
use Rattle.cell_heap.proofs.AtHand.{scan_is}
use Rattle.heap_rule.specs.declared.view.View.{View}

-- the control that is stored
pub stores_control : (e : Event) (known control next : Control) (word : ℕ) → known ≡ control
    → control_after control e ≡ next → word ≡ pack_control_of next
    → Store (pack_control_of (control_after known e)) ≡ Store word
stores_control e known control next word is goes packed =
    ap (λ (x : Control). Store (pack_control_of (control_after x e))) is
    ∙ ap (λ (x : Control). Store (pack_control_of x)) goes ∙ ap Store (sym packed)

posting : (c : Collector) (target : Stage)
    → progress_of (posted c target) ≡ changed (λ part. posted part target) (progress_of c)
posting c stage.Idle = refl
posting c stage.Sync1 = refl
posting c stage.Clear = refl
posting c stage.Sync2 = refl
posting c stage.Trace = refl
posting c stage.Sweep = refl

-- an answer to a handshake
pub answers : (c : Collector) (i : ℕ) (b : Bool) → progress_of (answered_by c i b) ≡ progress_of c
answers c i true = refl
answers c i false = refl

-- Where two parts are at the same point, they are so after a look of the trace.

on_either : (b : Bool) (x y z w : Collector) → progress_of x ≡ progress_of z
    → progress_of y ≡ progress_of w
    → progress_of (if b then x else y) ≡ progress_of (if b then z else w)
on_either true x y z w first second = first
on_either false x y z w first second = second

restarts : (c : Collector) (cells : ℕ)
    → progress_of (restarted c cells) ≡ progress_of (restarted (part_of (progress_of c)) cells)
restarts c cells =
    on_either ((c.cursor == cells) && not c.clean) _ c _ (part_of (progress_of c)) refl refl

passes : (c d : Collector) (cell : ℕ) → progress_of c ≡ progress_of d
    → progress_of (passed c cell) ≡ progress_of (passed d cell)
passes c d cell same =
    passing c ∙ ap (λ (p : Progress). changed (λ part. passed part cell) p) same ∙ sym (passing d)
  where
    passing : (x : Collector)
        → progress_of (passed x cell) ≡ changed (λ part. passed part cell) (progress_of x)
    passing x = on_either (cell == x.cursor) _ x _ (part_of (progress_of x)) refl refl

seeing : (c d : Collector) (cell : ℕ) (k : Colour) → progress_of c ≡ progress_of d
    → progress_of (seen c cell k) ≡ progress_of (seen d cell k)
seeing c d cell colour.Blue same = passes c d cell same
seeing c d cell colour.White same = passes c d cell same
seeing c d cell colour.Gray same =
    ap (λ (p : Progress). record p { clean = false; scan = Some (scanning_from cell) }) same
seeing c d cell colour.Black same = passes c d cell same

on_scanning : (change : Scanning → Scanning) (scan : Option Scanning) → (scan ≡ None → ⊥)
    → on_scan change scan ≡ Some (change (scan_or_none scan))
on_scanning change None there = absurd (there refl)
on_scanning change (Some scan) there = refl

-- By the numbers that the seat has at hand.
module _ {P : Type 0} {v : View P} {cells mutators : ℕ} {control : Control} {progress : Progress}
    (is : IsCollector v cells mutators control progress) where
  pub posts : (target : Stage) {further : Progress}
      → further ≡ changed (λ part. posted part target) progress
      → progress_of (posted v.part target) ≡ further
  posts target moved =
      posting v.part target ∙ ap (changed (λ part. posted part target)) is.progress_is ∙ sym moved

  pub sees : (cell : ℕ) {found k : Colour} {further : Progress} → found ≡ k
      → further ≡ changed (λ part. seen (restarted part cells) cell k) progress
      → progress_of (seen (restarted v.part v.shape.cells) cell found) ≡ further
  sees cell {found} {k} same moved =
      (λ j. progress_of (seen (restarted v.part (is.cells_are j)) cell (same j)))
      ∙ seeing (restarted v.part cells) (restarted (part_of (progress_of v.part)) cells) cell k
      (restarts v.part cells)
      ∙ ap (changed (λ part. seen (restarted part cells) cell k)) is.progress_is ∙ sym moved

  scan_goes_on : (change : Scanning → Scanning) {scan further : Scanning}
      → (v.part.scan ≡ None → ⊥) → scan ≡ scan_or_none progress.scan → further ≡ change scan
      → progress_of (record v.part { scan = on_scan change v.part.scan })
      ≡ record progress { scan = Some further }
  scan_goes_on change there at moved = (λ j. record (is.progress_is j) {
    scan = (on_scanning change v.part.scan there
        ∙ ap (λ (x : Scanning). Some (change x)) (scan_is is at) ∙ ap Some (sym moved)) j;
  })

  -- a scan that may go on is there
  pub scans : {scan further : Scanning} {found field : Field} → may_scan v.part.scan ≡ true
      → scan ≡ scan_or_none progress.scan → found ≡ field → further ≡ scanned scan field
      → progress_of (record v.part { scan = on_scan (λ s. scanned s found) v.part.scan })
      ≡ record progress { scan = Some further }
  scans {scan} {further} {found} may at same moved =
      scan_goes_on (λ s. scanned s found) (λ no. let none = rw no at may in cc) at
      (moved ∙ ap (scanned scan) (sym same))

  pub shades : {scan further : Scanning} → may_shade v.part.scan ≡ true
      → scan ≡ scan_or_none progress.scan → further ≡ scan_shaded scan
      → progress_of (record v.part { scan = on_scan scan_shaded v.part.scan })
      ≡ record progress { scan = Some further }
  shades may at moved =
      scan_goes_on scan_shaded (λ no. let none = rw no at may in cc) at moved

  pub sweeps : {sweep further : Sweeping} → sweep ≡ further
      → progress_of (record v.part { sweep = sweep }) ≡ record progress { sweep = further }
  sweeps goes = (λ j. record (is.progress_is j) { sweep = goes j })
