-- The state of the core: the words of the heap, and the own parts of its mutators and its
-- collector.
--
-- It is a record of lists whose lengths nothing bounds. Past the end of each list a reader finds
-- what is harmless there: a blue cell with null fields, a mutator that is over. So no definition
-- above has to speak of ranges. What a state of the machine has besides, as equal lengths, is
-- `InRange`.
-- Source: this project's.
use Rattle.std.specs.Prelude.{ℕ, ◌-◌, Bool, true, false, List, [], ◌++◌, length, replicate}
use Rattle.std.specs.Prelude.{slice_index, slice_index_or, slice_set, None}
use Rattle.std.specs.List.{list_all, count_by}
use Rattle.cell_words.specs.declared.colours.Colour.{Colour}
use Rattle.cell_words.specs.declared.colours.Colour.TheVariants as colour
use Rattle.cell_words.specs.declared.controls.Control.{Control}
use Rattle.cell_words.specs.declared.controls.Stage.TheVariants as stage
use Rattle.cell_words.specs.declared.fields.Field.{Field}
use Rattle.cell_words.specs.declared.fields.Field.TheVariants as field
use Rattle.cell_words.specs.declared.presences.Presence.{Presence}
use Rattle.cell_words.specs.declared.presences.Status.TheVariants as status
use Rattle.core_machine.specs.declared.pending.Pending.{Pending}
use Rattle.core_machine.specs.declared.places.Held.{Held}
use Rattle.core_machine.specs.declared.progress.Sweeping.TheVariants as sweeping
use Rattle.core_machine.specs.Collector.{Collector}
use Rattle.core_machine.specs.Own.{Own, no_own, pending_or_none}
use Rattle.core_machine.specs.Places.{cell_at}
use Rattle.core_machine.specs.Words.{is_blue, is_raw_kind, is_box_kind}

pub record State : Type 0 where
  -- how many cells there are
  pub cells : ℕ
  -- by cell: its colour, and its six fields
  pub colours : List Colour
  pub rows : List (List Field)
  -- how many mutators there are
  pub mutators : ℕ
  -- by mutator: how many places its held list may have, which no event changes
  pub rooms : List ℕ
  -- by mutator: what its status word shows, and the part that no word shows
  pub presences : List Presence
  pub owns : List Own
  -- the control word, and the collector's part that no word shows
  pub control : Control
  pub collector : Collector

-- what a control word can show: so many cells, and so many cycles
abbrev pub greatest_cells : ℕ
greatest_cells = 4194304

abbrev pub greatest_cycles : ℕ
greatest_cycles = 4000000000

-- Readers.

abbrev pub colour_in : List Colour → ℕ → Colour
colour_in colours c = slice_index_or colours c colour.Blue

abbrev pub colour_of : State → ℕ → Colour
colour_of s c = colour_in s.colours c

abbrev pub row_in : List (List Field) → ℕ → List Field
row_in rows c = slice_index_or rows c []

abbrev pub field_in : List (List Field) → ℕ → ℕ → Field
field_in rows c f = slice_index_or (row_in rows c) f field.Null

abbrev pub field_of : State → ℕ → ℕ → Field
field_of s c f = field_in s.rows c f

-- how often a cell was freed
abbrev pub freed_of : State → ℕ → ℕ
freed_of s c = slice_index s.collector.times_freed c

abbrev pub room_in : List ℕ → ℕ → ℕ
room_in rooms i = slice_index rooms i

abbrev pub room_of : State → ℕ → ℕ
room_of s i = room_in s.rooms i

-- of a mutator that there is not: it never begins
abbrev pub no_presence : Presence
no_presence = record { status = status.Async; inside = false; over = true }

abbrev pub presence_in : List Presence → ℕ → Presence
presence_in presences i = slice_index_or presences i no_presence

abbrev pub presence_of : State → ℕ → Presence
presence_of s i = presence_in s.presences i

abbrev pub own_in : List Own → ℕ → Own
own_in owns i = slice_index_or owns i no_own

abbrev pub own_of : State → ℕ → Own
own_of s i = own_in s.owns i

abbrev pub held_of : State → ℕ → List Held
held_of s i = (own_of s i).held

-- the cell at a place of mutator i
abbrev pub target_of : State → ℕ → ℕ → ℕ
target_of s i place = cell_at (held_of s i) place

-- the write that mutator i has begun, and a harmless one where there is none
abbrev pub begun_of : State → ℕ → Pending
begun_of s i = pending_or_none (own_of s i).pending

abbrev pub has_answered : State → ℕ → Bool
has_answered s i = slice_index_or s.collector.answered i true

abbrev pub all_answered : State → Bool
all_answered s = list_all (λ answered. answered) s.collector.answered

-- how many cells are blue
abbrev pub free_count_of : State → ℕ
free_count_of s = count_by is_blue s.colours

-- field 5 of the cell is null
abbrev pub is_raw : State → ℕ → Bool
is_raw s c = is_raw_kind (field_of s c 5)

abbrev pub is_box : State → ℕ → Bool
is_box s c = is_box_kind (field_of s c 5)

-- the value is a cell, and a raw one
abbrev pub is_raw_value : State → Field → Bool
is_raw_value s field.Null = false
is_raw_value s (field.Num n) = false
is_raw_value s (field.Cell c) = is_raw s c

-- Changes.

abbrev pub set_field : List (List Field) → ℕ → ℕ → Field → List (List Field)
set_field rows c f value = slice_set rows c (slice_set (row_in rows c) f value)

-- Opening.

-- six null fields
abbrev pub null_row : List Field
null_row = replicate 6 field.Null

-- out, in the async status
abbrev pub opening_presence : Presence
opening_presence = record { status = status.Async; inside = false; over = false }

abbrev pub opening_control : Control
opening_control = record { stage = stage.Idle; position = 0; cycles = 0; duty = false }

abbrev pub opening_collector : ℕ → ℕ → Collector
opening_collector cells mutators = record {
  answered = replicate mutators false;
  anchor_marked = false;
  cursor = 0;
  clean = false;
  scan = None;
  sweep = sweeping.Fresh;
  times_freed = replicate cells 0;
  number_freed = 0;
}

-- the state at the start: the first cells are white with the given rows, all others blue with null
-- fields, and each mutator has the room that is given for it
abbrev pub opening : ℕ → List ℕ → List (List Field) → State
opening cells rooms first = record {
  cells = cells;
  colours = replicate (length first) colour.White ++ replicate (cells - length first) colour.Blue;
  rows = first ++ replicate (cells - length first) null_row;
  mutators = length rooms;
  rooms = rooms;
  presences = replicate (length rooms) opening_presence;
  owns = replicate (length rooms) no_own;
  control = opening_control;
  collector = opening_collector cells (length rooms);
}
