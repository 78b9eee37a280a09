-- Held lists: the cells that a mutator holds, in the order in which it came to hold them.
--
-- The same cell may stand at many places. A mark belongs to a place, but a mutator that marks a
-- cell marks all its places of it.
-- Source: this project's.
use Rattle.std.specs.Prelude.{ℕ, ◌^◌, Bool, true, false, ◌&&◌, ◌==◌, nat_lt, List, ◌++◌, take, drop}
use Rattle.std.specs.Prelude.{slice_index_or, if◌then◌else◌}
use Rattle.std.specs.List.{list_any, list_all}
use Rattle.cell_words.specs.declared.fields.Field.{Field}
use Rattle.cell_words.specs.declared.fields.Field.TheVariants as field
use Rattle.cell_words.specs.declared.write_barrier.Barrier.{Barrier}
use Rattle.cell_words.specs.declared.write_barrier.Barrier.TheVariants as barrier
use Rattle.core_machine.specs.declared.places.Held.{Held}

-- what stands past the end of a held list
abbrev pub no_place : Held
no_place = record { cell = 0; marked = false }

-- the cell at a place
abbrev pub cell_at : List Held → ℕ → ℕ
cell_at held place = (slice_index_or held place no_place).cell

abbrev pub is_place_of : ℕ → Held → Bool
is_place_of cell place = place.cell == cell

abbrev pub is_marked_place_of : ℕ → Held → Bool
is_marked_place_of cell place = (place.cell == cell) && place.marked

-- some place has the cell
abbrev pub holds : List Held → ℕ → Bool
holds held cell = list_any (is_place_of cell) held

-- some marked place has the cell
abbrev pub holds_marked : List Held → ℕ → Bool
holds_marked held cell = list_any (is_marked_place_of cell) held

-- every place is marked
abbrev pub all_marked : List Held → Bool
all_marked held = list_all (λ place. place.marked) held

-- the value names a cell rightly: it is null, a number below 2^62, or a held cell
abbrev pub names_rightly : List Held → Field → Bool
names_rightly held field.Null = true
names_rightly held (field.Num n) = nat_lt n (2 ^ 62)
names_rightly held (field.Cell c) = holds held c

-- where the value is a cell, a marked place has it
abbrev pub is_marked_value : List Held → Field → Bool
is_marked_value held field.Null = true
is_marked_value held (field.Num n) = true
is_marked_value held (field.Cell c) = holds_marked held c

-- the marks stand that the barrier wants before a write of new over old
abbrev pub marks_stand : Barrier → List Held → Field → Field → Bool
marks_stand barrier.Nothing held old new = true
marks_stand barrier.Old held old new = is_marked_value held old
marks_stand barrier.Both held old new = is_marked_value held old && is_marked_value held new

-- Changes.

-- the place of a cell that was just found
abbrev pub found_at : ℕ → Held
found_at cell = record { cell = cell; marked = false }

abbrev pub unmark : Held → Held
unmark place = record place { marked = false }

-- the place with a mark, if it has the cell
abbrev pub mark_of : ℕ → Held → Held
mark_of cell place = if place.cell == cell then record place { marked = true } else place

-- the first `count` places, and then the `copies` that stood from `from` on
abbrev pub kept : List Held → ℕ → ℕ → ℕ → List Held
kept held count from copies = take count held ++ take copies (drop from held)
