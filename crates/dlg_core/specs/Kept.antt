-- What the type of the core keeps.
-- Source: this project's.
use Rattle.core_machine.specs.InRange.{InRange}
use Rattle.core_machine.specs.State.{State}
use Rattle.dlg_core.specs.Consistent.{IsConsistent}

pub record IsKept (s : State) : Type 0 where
  pub range : InRange s
  pub consistent : IsConsistent s
