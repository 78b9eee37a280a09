-- What the numbers that the collector's seat has at hand say of its view.
-- Source: this project's.
use Rattle.std.specs.Prelude.{ℕ, ◌≡◌, ◌<◌, ◌≤◌, ◌^◌, false, true, Some, is_some, length}
use Rattle.std.specs.List.{list_all}
use Rattle.cell_heap.specs.declared.progress.Progress.{Progress}
use Rattle.cell_heap.specs.Progress.{progress_of}
use Rattle.cell_words.specs.Control.{IsValidControl}
use Rattle.cell_words.specs.declared.controls.Control.{Control}
use Rattle.cell_words.specs.declared.controls.Stage.TheVariants as stage
use Rattle.core_machine.specs.declared.progress.Scanning.{Scanning}
use Rattle.core_machine.specs.InRange.{CyclesFit, ScanFits}
use Rattle.core_machine.specs.State.{greatest_cells}
use Rattle.core_machine.specs.Sweep.{is_fresh}
use Rattle.heap_rule.specs.declared.view.Role.TheVariants as role
use Rattle.heap_rule.specs.declared.view.View.{View}

-- The ranges of the collector's numbers, as every state of a run has them.
pub record IsWithin (cells : ℕ) (control : Control) (progress : Progress) : Type 0 where
  pub some_cells : 0 < cells
  pub few_cells : cells ≤ greatest_cells
  pub valid : IsValidControl control
  pub cycles_fit : CyclesFit control.cycles control.stage
  -- work that goes on at the position goes on at a cell that there is
  pub busy : is_fresh progress.sweep ≡ false → control.position < cells
  pub scan_fits : ScanFits cells progress.scan
  -- and a scan goes on while the collector traces alone
  pub traces : (scan : Scanning) → progress.scan ≡ Some scan → control.stage ≡ stage.Trace
  pub few_freed : progress.freed < 2 ^ 63

-- a collector's view, with these numbers
pub record IsCollector {P : Type 0} (me : View P) (cells mutators : ℕ) (control : Control)
    (progress : Progress) : Type 0 where
  pub role_is : me.role ≡ role.Collector
  pub cells_are : me.shape.cells ≡ cells
  pub mutators_are : me.shape.mutators ≡ mutators
  pub control_is : me.control ≡ control
  pub progress_is : progress_of me.part ≡ progress
  -- an answer is kept for each mutator, and whether it was found over
  pub answers_fit : length me.part.answered ≡ mutators
  pub over_fit : length me.over ≡ mutators
  -- once all were, the state is known
  pub knows : 0 < mutators → list_all (λ found. found) me.over ≡ true → is_some me.alone ≡ true
  pub within : IsWithin cells control progress

-- a collector's view, whatever its numbers are
abbrev pub IsCollectors : {P : Type 0} → View P → Type 0
IsCollectors me =
    IsCollector me me.shape.cells me.shape.mutators me.control (progress_of me.part)
