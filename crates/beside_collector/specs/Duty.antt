-- The collector goes on duty before it serves.
-- Source: this project's.
use Rattle.std.specs.Prelude.{ℕ, zero, suc, ◌≡◌, ◌++◌, true, List, [], ◌∷◌}
use Rattle.cell_words.specs.declared.controls.Stage.TheVariants as stage
use Rattle.core_machine.specs.declared.events.Event.TheVariants as event
use Rattle.core_machine.specs.declared.events.Found.TheVariants as finds
use Rattle.core_machine.specs.declared.events.Taken.{Taken}
use Rattle.heap_rule.specs.Rule.{took}
use Rattle.heap_table.specs.Seats.{SeatView}

-- on duty from the first event on, if there are cycles to make
abbrev pub duty_on : ℕ → List Taken
duty_on zero = []
duty_on (suc more) = took (event.Duty true) finds.Stored ∷ []

module _ {P : Type 0} where
  -- The collector's seat, between two cycles, went on duty if it may make cycles.
  pub record IsOnDuty (cycles : ℕ) (old new : SeatView P) : Type 0 where
    pub table : new.table ≡ old.table
    pub shape : new.me.shape ≡ old.me.shape
    pub places : new.me.places ≡ old.me.places
    pub idle : new.me.control.stage ≡ stage.Idle
    pub ended : new.me.control.cycles ≡ old.me.control.cycles
    pub trail : new.me.trail ≡ old.me.trail ++ duty_on cycles
