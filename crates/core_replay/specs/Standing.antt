-- Where a replay stands: the state of its core, and how many events it has taken.
-- Source: this project's.
use Rattle.std.specs.Prelude.{ℕ, ◌+◌, ◌<◌, ◌≤◌, List, [], ◌∷◌, replicate, Option, Some, None}
use Rattle.cell_words.specs.declared.fields.Field.{Field}
use Rattle.cell_words.specs.declared.fields.Field.TheVariants.{Null, Num}
use Rattle.core_machine.specs.Next.{next}
use Rattle.core_machine.specs.State.{State, opening}
use Rattle.core_machine.specs.declared.events.Event.{Event}
use Rattle.core_replay.specs.declared.start.Sizes.{Sizes}
use Rattle.dlg_core.specs.Kept.{IsKept}
use Rattle.dlg_core.specs.Left.{left}

pub record Standing : Type 0 where
  -- the state of the core
  pub core : State
  -- how many events were taken
  pub taken : ℕ

-- the anchor when a replay begins: a box with a null payload
abbrev pub anchor_row : List Field
anchor_row = Null ∷ Null ∷ Null ∷ Null ∷ Null ∷ Num 2 ∷ []

-- at the start the anchor is the only cell in use, and all mutators have the same room
abbrev pub opened : Sizes → Standing
opened sizes = record {
  core = opening sizes.cells (replicate sizes.mutators sizes.room) (anchor_row ∷ []);
  taken = 0;
}

-- one event more, where there is a successor
abbrev pub counted : ℕ → Option State → Option Standing
counted taken None = None
counted taken (Some s) = Some (record { core = s; taken = taken + 1 })

-- after the event, where it can happen
abbrev pub taken_by : Standing → Event → Option Standing
taken_by p e = counted p.taken (next p.core e)

-- the plain collector has less to do, by as much at least as events were taken
abbrev pub HasFallen : Standing → Standing → Type 0
HasFallen old new = (left new.core < left old.core)
    × (new.taken + left new.core ≤ old.taken + left old.core)

-- what is kept of the core: its invariant, and sizes that a schedule can give
pub record IsReplayed (s : State) : Type 0 where
  pub kept : IsKept s
  pub few_cells : s.cells ≤ 256
  pub few_mutators : s.mutators ≤ 64
