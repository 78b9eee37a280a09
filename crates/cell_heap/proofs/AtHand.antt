-- Where the words of the collector's events lie, by the numbers that its seat has at hand.
use Rattle.std.proofs.Common.{◌≡◌, ℕ, Option, Some, None, refl, sym, ◌∙◌, ap}
use Rattle.cell_heap.specs.declared.progress.Progress.{Progress}
use Rattle.cell_heap.specs.Collecting.{IsCollector}
use Rattle.cell_words.specs.declared.controls.Control.{Control}
use Rattle.cell_words.specs.declared.controls.Stage.TheVariants as stage
use Rattle.core_machine.specs.declared.progress.Scanning.{Scanning}
use Rattle.core_machine.specs.Sweep.{wiped_count}
use Rattle.core_machine.specs.Table.{ColourOf, FieldOf, index_of}
use Rattle.core_machine.specs.Tracing.{scan_or_none}
use Rattle.heap_rule.specs.declared.view.View.{View}

-- by equal numbers
pub colour_lies : {word m n cell here : ℕ} → word ≡ index_of m (ColourOf cell) → m ≡ n
    → cell ≡ here → index_of n (ColourOf here) ≡ word
colour_lies lies many at = sym (lies ∙ (λ j. index_of (many j) (ColourOf (at j))))

pub field_lies : {word m n cell here f g : ℕ} → word ≡ index_of m (FieldOf cell f) → m ≡ n
    → cell ≡ here → f ≡ g → index_of n (FieldOf here g) ≡ word
field_lies lies many at of = sym (lies ∙ (λ j. index_of (many j) (FieldOf (at j) (of j))))

module _ {P : Type 0} {v : View P} {cells mutators : ℕ} {control : Control} {progress : Progress}
    (is : IsCollector v cells mutators control progress) where
  colour_at : {cell here word : ℕ} → cell ≡ here → word ≡ index_of mutators (ColourOf here)
      → index_of v.shape.mutators (ColourOf cell) ≡ word
  colour_at at lies = (λ j. index_of (is.mutators_are j) (ColourOf (at j))) ∙ sym lies

  field_at : {cell here f g word : ℕ} → cell ≡ here → f ≡ g
      → word ≡ index_of mutators (FieldOf here g)
      → index_of v.shape.mutators (FieldOf cell f) ≡ word
  field_at at of lies = (λ j. index_of (is.mutators_are j) (FieldOf (at j) (of j))) ∙ sym lies

  pub scan_is : {scan : Scanning} → scan ≡ scan_or_none progress.scan
      → scan_or_none v.part.scan ≡ scan
  scan_is at = ap (λ (p : Progress). scan_or_none p.scan) is.progress_is ∙ sym at

  pub position_is : v.control.position ≡ control.position
  position_is = ap (λ (x : Control). x.position) is.control_is

  pub at_cell : (cell : ℕ) {word : ℕ} → word ≡ index_of mutators (ColourOf cell)
      → index_of v.shape.mutators (ColourOf cell) ≡ word
  at_cell cell lies = colour_at (λ j. cell) lies

  pub at_position : {word : ℕ} → word ≡ index_of mutators (ColourOf control.position)
      → index_of v.shape.mutators (ColourOf v.control.position) ≡ word
  at_position lies = colour_at position_is lies

  pub at_wiped : {count word : ℕ} → count ≡ wiped_count progress.sweep
      → word ≡ index_of mutators (FieldOf control.position count)
      → index_of v.shape.mutators (FieldOf v.control.position (wiped_count v.part.sweep)) ≡ word
  at_wiped at lies =
      field_at position_is
      (ap (λ (p : Progress). wiped_count p.sweep) is.progress_is ∙ sym at) lies

  -- between two cycles no scan goes on
  pub no_scan : v.control.stage ≡ stage.Idle → progress.scan ≡ None
  no_scan idle = by_scan progress.scan refl
    where
      by_scan : (scan : Option Scanning) → progress.scan ≡ scan → progress.scan ≡ None
      by_scan None none = none
      by_scan (Some scan) some =
          let no = sym idle ∙ ap (λ (x : Control). x.stage) is.control_is
          ∙ is.within.traces scan some in
          absurd cc
