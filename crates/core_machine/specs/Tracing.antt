-- Clearing and tracing: the events ClearCell, Anchor, See, Scan, Shade and Blacken. When each can
-- happen, what it finds and what it leaves, which is told of every state, also where it cannot
-- happen.
-- Source: Doligez and Leroy, POPL 1993, and Doligez and Gonthier, POPL 1994 (the colours, tracing
-- by passes over all cells); this project's (clearing as a stage, a scan field by field).
use Rattle.std.specs.Prelude.{ℕ, Bool, false, not, ◌&&◌, ◌==◌, nat_lt, slice_set, Option, Some}
use Rattle.std.specs.Prelude.{None, is_none}
use Rattle.cell_words.specs.declared.colours.Colour.TheVariants as colour
use Rattle.cell_words.specs.declared.controls.Stage.TheVariants as stage
use Rattle.core_machine.specs.declared.events.Found.{Found}
use Rattle.core_machine.specs.declared.events.Found.TheVariants as finds
use Rattle.core_machine.specs.declared.events.Event.TheVariants as event
use Rattle.core_machine.specs.declared.progress.Scanning.{Scanning}
use Rattle.core_machine.specs.State.{State, colour_of, field_of, all_answered}
use Rattle.core_machine.specs.Words.{shaded, cleared}
use Rattle.core_machine.specs.Handshakes.{at_stage, tell_collector}

-- the scan that stands for none: nothing of it is left to do
abbrev pub no_scan : Scanning
no_scan = record { cell = 0; next = 5; child = None }

abbrev pub scan_or_none : Option Scanning → Scanning
scan_or_none None = no_scan
scan_or_none (Some scan) = scan

abbrev pub scan_of : State → Scanning
scan_of s = scan_or_none s.collector.scan

abbrev pub child_or_anchor : Option ℕ → ℕ
child_or_anchor None = 0
child_or_anchor (Some child) = child

abbrev pub child_of : State → ℕ
child_of s = child_or_anchor (scan_of s).child

-- ClearCell.

abbrev pub clear_can : State → Bool
clear_can s = at_stage s stage.Clear && nat_lt s.collector.cursor s.cells

abbrev pub clear_found : State → Found
clear_found s = finds.Colour (colour_of s s.collector.cursor)

abbrev pub clear_after : State → State
clear_after s =
    tell_collector (record s {
      colours = slice_set s.colours s.collector.cursor (cleared (colour_of s s.collector.cursor));
    }) event.ClearCell (clear_found s)

-- Anchor.

abbrev pub anchor_can : State → Bool
anchor_can s = at_stage s stage.Sync2 && all_answered s

abbrev pub anchor_found : State → Found
anchor_found s = finds.Colour (colour_of s 0)

abbrev pub anchor_after : State → State
anchor_after s =
    tell_collector (record s { colours = slice_set s.colours 0 (shaded (colour_of s 0)) })
    event.Anchor (anchor_found s)

-- See.

abbrev pub see_can : State → ℕ → Bool
see_can s c = at_stage s stage.Trace && all_answered s && is_none s.collector.scan && nat_lt c
    s.cells

abbrev pub see_found : State → ℕ → Found
see_found s c = finds.Colour (colour_of s c)

abbrev pub see_after : State → ℕ → State
see_after s c = tell_collector s (event.See c) (see_found s c)

-- Scan. Field 5 is no payload, so the scan ends before it.

-- a field is left to be loaded
abbrev pub may_scan : Option Scanning → Bool
may_scan None = false
may_scan (Some scan) = nat_lt scan.next 5 && is_none scan.child

abbrev pub scan_can : State → Bool
scan_can s = may_scan s.collector.scan

abbrev pub scan_found : State → Found
scan_found s = finds.Field (field_of s (scan_of s).cell (scan_of s).next)

abbrev pub scan_after : State → State
scan_after s = tell_collector s event.Scan (scan_found s)

-- Shade.

-- a child is left to be shaded
abbrev pub may_shade : Option Scanning → Bool
may_shade None = false
may_shade (Some scan) = not (is_none scan.child)

abbrev pub shade_can : State → Bool
shade_can s = may_shade s.collector.scan

abbrev pub shade_found : State → Found
shade_found s = finds.Colour (colour_of s (child_of s))

abbrev pub shade_after : State → State
shade_after s =
    tell_collector (record s {
      colours = slice_set s.colours (child_of s) (shaded (colour_of s (child_of s)));
    }) event.Shade (shade_found s)

-- Blacken.

-- every field is scanned
abbrev pub may_blacken : Option Scanning → Bool
may_blacken None = false
may_blacken (Some scan) = scan.next == 5

abbrev pub blacken_can : State → Bool
blacken_can s = may_blacken s.collector.scan

abbrev pub blacken_after : State → State
blacken_after s =
    tell_collector (record s { colours = slice_set s.colours (scan_of s).cell colour.Black })
    event.Blacken finds.Stored
