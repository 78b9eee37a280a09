-- The ranges that the machine's indexing and counting rest on. They say nothing of what the
-- collector is for: they hold at the opening, and every event keeps them (proofs/Ranges).
--
-- Each group of facts takes the parts of the state that it reads, so an event that changes none of
-- these keeps the group as it is.
-- Source: this project's.
use Rattle.std.specs.Prelude.{ℕ, ◌≡◌, ◌+◌, ◌*◌, ◌^◌, ◌<◌, ◌≤◌, Bool, true, nat_lt, List, length}
use Rattle.std.specs.Prelude.{slice_index, Option, Some, None}
use Rattle.std.specs.List.{count_by, list_all}
use Rattle.cell_words.specs.Presence.{is_valid_presence}
use Rattle.cell_words.specs.declared.colours.Colour.{Colour}
use Rattle.cell_words.specs.declared.controls.Control.{Control}
use Rattle.cell_words.specs.declared.controls.Stage.{Stage}
use Rattle.cell_words.specs.declared.controls.Stage.TheVariants as stage
use Rattle.cell_words.specs.declared.fields.Field.{Field}
use Rattle.cell_words.specs.declared.fields.Field.TheVariants as field
use Rattle.cell_words.specs.declared.presences.Presence.{Presence}
use Rattle.core_machine.specs.declared.progress.Scanning.{Scanning}
use Rattle.core_machine.specs.declared.progress.Sweeping.{Sweeping}
use Rattle.core_machine.specs.declared.progress.Sweeping.TheVariants as sweeping
use Rattle.core_machine.specs.Own.{Own, pending_or_none}
use Rattle.core_machine.specs.Places.{cell_at}
use Rattle.core_machine.specs.State.{State, greatest_cells, greatest_cycles, row_in, field_in}
use Rattle.core_machine.specs.State.{own_in, presence_in}
use Rattle.core_machine.specs.Words.{is_blue}

-- the lists that go by cells
pub record CellsFit (cells : ℕ) (colours : List Colour) (rows : List (List Field))
    (times_freed : List ℕ) : Type 0 where
  pub some_cells : 0 < cells
  pub colours_fit : length colours ≡ cells
  pub rows_fit : length rows ≡ cells
  pub freed_fit : length times_freed ≡ cells
  pub six_fields : (c : ℕ) → c < cells → length (row_in rows c) ≡ 6

-- the lists that go by mutators
pub record MutatorsFit (mutators : ℕ) (rooms : List ℕ) (presences : List Presence) (owns : List Own)
    (answered : List Bool) : Type 0 where
  pub rooms_fit : length rooms ≡ mutators
  pub presences_fit : length presences ≡ mutators
  pub owns_fit : length owns ≡ mutators
  pub answered_fit : length answered ≡ mutators

-- the field names no cell, or one that there is
abbrev pub NamesBelow : ℕ → Field → Type 0
NamesBelow cells field.Null = Unit {0}
NamesBelow cells (field.Num n) = Unit {0}
NamesBelow cells (field.Cell c) = c < cells

-- the test of it, for rows that are given
abbrev pub names_below : ℕ → Field → Bool
names_below cells field.Null = true
names_below cells (field.Num n) = true
names_below cells (field.Cell c) = nat_lt c cells

abbrev pub rows_name_below : ℕ → List (List Field) → Bool
rows_name_below cells rows = list_all (λ row. list_all (names_below cells) row) rows

-- no row names a cell that there is not
abbrev pub RowsFit : ℕ → List (List Field) → Type 0
RowsFit cells rows = (c f : ℕ) → NamesBelow cells (field_in rows c f)

-- a child was read from a field that there is, and is a cell that there is
abbrev pub ChildFits : ℕ → ℕ → Option ℕ → Type 0
ChildFits cells next None = Unit {0}
ChildFits cells next (Some child) = (next < 5) × (child < cells)

abbrev pub ScanFits : ℕ → Option Scanning → Type 0
ScanFits cells None = Unit {0}
ScanFits cells (Some scan) = (scan.cell < cells) × (scan.next ≤ 5)
    × ChildFits cells scan.next scan.child

-- every cell that is named is one that there is, and so is every field
pub record NamesFit (cells : ℕ) (rows : List (List Field)) (owns : List Own)
    (scan : Option Scanning) : Type 0 where
  pub fields_fit : RowsFit cells rows
  pub held_fit : (i place : ℕ) → cell_at (own_in owns i).held place < cells
  pub pendings_fit : (i : ℕ) → (pending_or_none (own_in owns i).pending).f ≤ 4
  pub scan_fits : ScanFits cells scan

-- how many cells of this sweep are done: those below the position, and perhaps the one at it
abbrev pub swept_count : ℕ → Sweeping → ℕ
swept_count position sweeping.Fresh = position
swept_count position (sweeping.Wiping k) = position
swept_count position sweeping.BlackFound = position
swept_count position sweeping.Done = position + 1

-- the work on the cell at the position goes on at a cell that there is
abbrev pub SweepFits : ℕ → ℕ → Sweeping → Type 0
SweepFits cells position sweeping.Fresh = position ≤ cells
SweepFits cells position (sweeping.Wiping k) = (position < cells) × (k ≤ 6)
SweepFits cells position sweeping.BlackFound = position < cells
SweepFits cells position sweeping.Done = position < cells

-- outside the stage Sweep the position is 0 and nothing is being swept
abbrev pub StageFits : ℕ → ℕ → Sweeping → Stage → Type 0
StageFits cells position sweep stage.Idle = (position ≡ 0) × (sweep ≡ sweeping.Fresh)
StageFits cells position sweep stage.Sync1 = (position ≡ 0) × (sweep ≡ sweeping.Fresh)
StageFits cells position sweep stage.Clear = (position ≡ 0) × (sweep ≡ sweeping.Fresh)
StageFits cells position sweep stage.Sync2 = (position ≡ 0) × (sweep ≡ sweeping.Fresh)
StageFits cells position sweep stage.Trace = (position ≡ 0) × (sweep ≡ sweeping.Fresh)
StageFits cells position sweep stage.Sweep = SweepFits cells position sweep

-- a cycle that goes on may still be counted
abbrev pub CyclesFit : ℕ → Stage → Type 0
CyclesFit cycles stage.Idle = cycles ≤ greatest_cycles
CyclesFit cycles stage.Sync1 = cycles < greatest_cycles
CyclesFit cycles stage.Clear = cycles < greatest_cycles
CyclesFit cycles stage.Sync2 = cycles < greatest_cycles
CyclesFit cycles stage.Trace = cycles < greatest_cycles
CyclesFit cycles stage.Sweep = cycles < greatest_cycles

pub record ControlFits (cells : ℕ) (control : Control) (sweep : Sweeping) : Type 0 where
  pub stage_fits : StageFits cells control.position sweep control.stage
  pub cycles_fit : CyclesFit control.cycles control.stage

-- no counter passes what the cycles allow: each frees a cell at most once, and a cell that is
-- claimed was blue at the opening or was freed
pub record CountsFit (cells : ℕ) (colours : List Colour) (owns : List Own) (control : Control)
    (sweep : Sweeping) (times_freed : List ℕ) (number_freed : ℕ) : Type 0 where
  pub each_fits : (c : ℕ) → slice_index times_freed c ≤ number_freed
  pub freed_fits : number_freed ≤ control.cycles * cells + swept_count control.position sweep
  pub claims_fit : (i : ℕ)
      → (own_in owns i).claims + count_by is_blue colours ≤ cells + number_freed

-- the shape of a state, of any number of cells
pub record IsShaped (s : State) : Type 0 where
  pub cells_fit : CellsFit s.cells s.colours s.rows s.collector.times_freed
  pub mutators_fit : MutatorsFit s.mutators s.rooms s.presences s.owns s.collector.answered
  pub names_fit : NamesFit s.cells s.rows s.owns s.collector.scan
  pub control_fits : ControlFits s.cells s.control s.collector.sweep
  pub counts_fit : CountsFit s.cells s.colours s.owns s.control s.collector.sweep
      s.collector.times_freed s.collector.number_freed

-- and no more cells than a control word can show
pub record InRange (s : State) : Type 0 where
  pub shape : IsShaped s
  pub few_cells : s.cells ≤ greatest_cells

-- Words. The machine asks for none of this; it holds in every run from first rows that have words
-- (proofs/HasWords).

-- the field is a number that fits its word, or none
abbrev pub NumberFits : Field → Type 0
NumberFits field.Null = Unit {0}
NumberFits (field.Num n) = n < 2 ^ 62
NumberFits (field.Cell c) = Unit {0}

pub record HaveWords (rows : List (List Field)) (presences : List Presence) : Type 0 where
  pub numbers_fit : (c f : ℕ) → NumberFits (field_in rows c f)
  pub never_both : (i : ℕ) → is_valid_presence (presence_in presences i) ≡ true

-- each field and each presence has a word, in a heap of at most 2^32 cells
abbrev pub HasWords : State → Type 0
HasWords s = HaveWords s.rows s.presences
