-- The sweep: the events SweepLook, Wipe, Free, Whiten and Advance. When each can happen, what it
-- finds and what it leaves, which is told of every state, also where it cannot happen.
-- Source: Doligez and Leroy, POPL 1993 (the sweep); this project's (wiping before a cell is freed).
use Rattle.std.specs.Prelude.{ℕ, Bool, true, false, not, ◌&&◌, ◌==◌, nat_lt, slice_set}
use Rattle.cell_words.specs.declared.colours.Colour.TheVariants as colour
use Rattle.cell_words.specs.declared.controls.Stage.TheVariants as stage
use Rattle.cell_words.specs.declared.fields.Field.TheVariants as field
use Rattle.core_machine.specs.declared.events.Found.{Found}
use Rattle.core_machine.specs.declared.events.Found.TheVariants as finds
use Rattle.core_machine.specs.declared.events.Event.TheVariants as event
use Rattle.core_machine.specs.declared.progress.Sweeping.{Sweeping}
use Rattle.core_machine.specs.declared.progress.Sweeping.TheVariants as sweeping
use Rattle.core_machine.specs.State.{State, colour_of, set_field}
use Rattle.core_machine.specs.Words.{is_gray}
use Rattle.core_machine.specs.Handshakes.{at_stage, tell_collector, tell_control}

-- how many fields of the cell at the position are wiped; 6 where it is not being wiped
abbrev pub wiped_count : Sweeping → ℕ
wiped_count sweeping.Fresh = 6
wiped_count (sweeping.Wiping k) = k
wiped_count sweeping.BlackFound = 6
wiped_count sweeping.Done = 6

-- SweepLook.

abbrev pub is_fresh : Sweeping → Bool
is_fresh sweeping.Fresh = true
is_fresh (sweeping.Wiping k) = false
is_fresh sweeping.BlackFound = false
is_fresh sweeping.Done = false

abbrev pub sweep_look_can : State → Bool
sweep_look_can s =
    at_stage s stage.Sweep && nat_lt s.control.position s.cells && is_fresh s.collector.sweep
    && not (is_gray (colour_of s s.control.position))

abbrev pub sweep_look_found : State → Found
sweep_look_found s = finds.Colour (colour_of s s.control.position)

abbrev pub sweep_look_after : State → State
sweep_look_after s = tell_collector s event.SweepLook (sweep_look_found s)

-- Wipe.

abbrev pub may_wipe : Sweeping → Bool
may_wipe sweeping.Fresh = false
may_wipe (sweeping.Wiping k) = nat_lt k 6
may_wipe sweeping.BlackFound = false
may_wipe sweeping.Done = false

abbrev pub wipe_can : State → Bool
wipe_can s = may_wipe s.collector.sweep

abbrev pub wipe_after : State → State
wipe_after s =
    tell_collector (record s {
      rows = set_field s.rows s.control.position (wiped_count s.collector.sweep) field.Null;
    }) event.Wipe finds.Stored

-- Free.

-- all six fields are null
abbrev pub may_free : Sweeping → Bool
may_free sweeping.Fresh = false
may_free (sweeping.Wiping k) = k == 6
may_free sweeping.BlackFound = false
may_free sweeping.Done = false

abbrev pub free_can : State → Bool
free_can s = may_free s.collector.sweep

abbrev pub free_after : State → State
free_after s =
    tell_collector (record s { colours = slice_set s.colours s.control.position colour.Blue })
    event.Free finds.Stored

-- Whiten.

abbrev pub is_black_found : Sweeping → Bool
is_black_found sweeping.Fresh = false
is_black_found (sweeping.Wiping k) = false
is_black_found sweeping.BlackFound = true
is_black_found sweeping.Done = false

abbrev pub whiten_can : State → Bool
whiten_can s = is_black_found s.collector.sweep

abbrev pub whiten_after : State → State
whiten_after s =
    tell_collector (record s { colours = slice_set s.colours s.control.position colour.White })
    event.Whiten finds.Stored

-- Advance.

abbrev pub is_done : Sweeping → Bool
is_done sweeping.Fresh = false
is_done (sweeping.Wiping k) = false
is_done sweeping.BlackFound = false
is_done sweeping.Done = true

abbrev pub advance_can : State → Bool
advance_can s = at_stage s stage.Sweep && nat_lt s.control.position s.cells && is_done
    s.collector.sweep

abbrev pub advance_after : State → State
advance_after s = tell_control (tell_collector s event.Advance finds.Stored) event.Advance
