-- The events of a mutator i that may change a word of a cell: Mark, Write, Store, Claim, Fill and
-- Seal. When each can happen, what it finds and what it leaves, which is told of every state, also
-- where it cannot happen. `place` is an index into its held list.
-- Source: Doligez and Leroy, POPL 1993, and Doligez and Gonthier, POPL 1994 (marking before a
-- write, the colour of a new cell); this project's (raw cells, records and boxes).
use Rattle.std.specs.Prelude.{ℕ, Bool, not, ◌&&◌, nat_lt, nat_le, slice_set}
use Rattle.cell_words.specs.declared.fields.Field.{Field}
use Rattle.cell_words.specs.declared.fields.Kind.{Kind}
use Rattle.core_machine.specs.declared.events.Found.{Found}
use Rattle.core_machine.specs.declared.events.Found.TheVariants as finds
use Rattle.core_machine.specs.declared.events.Event.TheVariants as event
use Rattle.core_machine.specs.Places.{names_rightly, marks_stand}
use Rattle.core_machine.specs.State.{State, colour_of, field_of, presence_of, own_of, held_of}
use Rattle.core_machine.specs.State.{target_of, begun_of, is_raw, is_box, is_raw_value, set_field}
use Rattle.core_machine.specs.Words.{shaded, claimed, written, is_cell, kind_field, marks_some}
use Rattle.core_machine.specs.Words.{born_colour}
use Rattle.core_machine.specs.Operations.{is_in, is_place, has_room, has_mode, has_pending}
use Rattle.core_machine.specs.Operations.{own_barrier, tell_own}

-- Mark. Without a mode the barrier is Nothing, so the last test wants a mode too.

abbrev pub mark_can : State → ℕ → ℕ → Bool
mark_can s i place = is_in s i && is_place s i place && marks_some (own_barrier s i)

abbrev pub mark_found : State → ℕ → ℕ → Found
mark_found s i place = finds.Colour (colour_of s (target_of s i place))

abbrev pub mark_after : State → ℕ → ℕ → State
mark_after s i place =
    tell_own (record s {
      colours = slice_set s.colours (target_of s i place)
          (shaded (colour_of s (target_of s i place)));
    }) i (event.Mark i place) (mark_found s i place)

-- Write.

-- the value may be written by mutator i, as the old or as the new one
abbrev pub names_own : State → ℕ → Field → Bool
names_own s i value = names_rightly (held_of s i) value

abbrev pub write_can : State → ℕ → ℕ → ℕ → Field → Field → Bool
write_can s i place f old new =
    is_in s i && has_mode s i && not (has_pending s i) && is_place s i place && nat_le f 4
    && is_box s (target_of s i place) && names_own s i old && names_own s i new
    && not (is_raw_value s new) && marks_stand (own_barrier s i) (held_of s i) old new

abbrev pub write_found : State → ℕ → ℕ → ℕ → Found
write_found s i place f = finds.Field (field_of s (target_of s i place) f)

abbrev pub write_after : State → ℕ → ℕ → ℕ → Field → Field → State
write_after s i place f old new =
    tell_own (record s {
      rows = set_field s.rows (target_of s i place) f
          (written (field_of s (target_of s i place) f) old new);
    }) i (event.Write i place f old new) (write_found s i place f)

-- Store. That its target is a box, and that there is a mode, its fetch has made sure of.

abbrev pub store_can : State → ℕ → Field → Bool
store_can s i new =
    is_in s i && has_pending s i && names_own s i new && not (is_raw_value s new)
    && marks_stand (own_barrier s i) (held_of s i) (begun_of s i).found new

abbrev pub store_after : State → ℕ → Field → State
store_after s i new =
    tell_own (record s {
      rows = set_field s.rows (target_of s i (begun_of s i).place) (begun_of s i).f new;
    }) i (event.Store i new) finds.Stored

-- Claim.

abbrev pub claim_can : State → ℕ → ℕ → Bool
claim_can s i c =
    is_in s i && has_mode s i && not (has_pending s i) && nat_lt c s.cells && has_room s i

abbrev pub claim_found : State → ℕ → Found
claim_found s c = finds.Colour (colour_of s c)

abbrev pub claim_after : State → ℕ → ℕ → State
claim_after s i c =
    tell_own (record s {
      colours = slice_set s.colours c
          (claimed (colour_of s c) (born_colour (presence_of s i).status (own_of s i).mode c));
    }) i (event.Claim i c) (claim_found s c)

-- Fill. The field holds no cell, so that no cell is cut off whose name somebody read here.

abbrev pub fill_can : State → ℕ → ℕ → ℕ → Field → Bool
fill_can s i place f value =
    is_in s i && is_place s i place && is_raw s (target_of s i place) && nat_le f 4
    && names_own s i value && not (is_raw_value s value)
    && not (is_cell (field_of s (target_of s i place) f))

abbrev pub fill_after : State → ℕ → ℕ → ℕ → Field → State
fill_after s i place f value = record s { rows = set_field s.rows (target_of s i place) f value }

-- Seal.

abbrev pub seal_can : State → ℕ → ℕ → Bool
seal_can s i place = is_in s i && is_place s i place && is_raw s (target_of s i place)

abbrev pub seal_after : State → ℕ → ℕ → Kind → State
seal_after s i place kind = record s
    { rows = set_field s.rows (target_of s i place) 5 (kind_field kind) }
