-- The event table: for every event when it can happen, what it finds, what it leaves, and the
-- successor that these make. A line a kind.
--
-- A state and an event have at most one successor, since `next` is a function.
-- Source: Doligez and Leroy, POPL 1993, and Doligez and Gonthier, POPL 1994; this project's form.
use Rattle.std.specs.Prelude.{ℕ, Bool, true, false, Option, Some, None}
use Rattle.core_machine.specs.declared.events.Found.{Found}
use Rattle.core_machine.specs.declared.events.Found.TheVariants as finds
use Rattle.core_machine.specs.declared.events.Event.{Event}
use Rattle.core_machine.specs.declared.events.Event.TheVariants as event
use Rattle.core_machine.specs.State.{State}
use Rattle.core_machine.specs.Mutation.{mark_can, mark_found, mark_after, write_can, write_found}
use Rattle.core_machine.specs.Mutation.{write_after, store_can, store_after, claim_can, claim_found}
use Rattle.core_machine.specs.Mutation.{claim_after, fill_can, fill_after, seal_can, seal_after}
use Rattle.core_machine.specs.Operations.{begin_can, begin_found, begin_after, look_can, look_found}
use Rattle.core_machine.specs.Operations.{look_after, read_can, read_found, read_after, fetch_can}
use Rattle.core_machine.specs.Operations.{fetch_found, fetch_after, answer_can, answer_after}
use Rattle.core_machine.specs.Operations.{keep_can, keep_found, keep_after, end_can, end_found}
use Rattle.core_machine.specs.Operations.{end_after, over_can, over_found, over_after}
use Rattle.core_machine.specs.Handshakes.{post_can, post_after, duty_can, duty_after, poll_can}
use Rattle.core_machine.specs.Handshakes.{poll_found, poll_after, answer_out_can, answer_out_found}
use Rattle.core_machine.specs.Handshakes.{answer_out_after}
use Rattle.core_machine.specs.Sweep.{sweep_look_can, sweep_look_found, sweep_look_after, wipe_can}
use Rattle.core_machine.specs.Sweep.{wipe_after, free_can, free_after, whiten_can, whiten_after}
use Rattle.core_machine.specs.Sweep.{advance_can, advance_after}
use Rattle.core_machine.specs.Tracing.{clear_can, clear_found, clear_after, anchor_can}
use Rattle.core_machine.specs.Tracing.{anchor_found, anchor_after, see_can, see_found, see_after}
use Rattle.core_machine.specs.Tracing.{scan_can, scan_found, scan_after, shade_can, shade_found}
use Rattle.core_machine.specs.Tracing.{shade_after, blacken_can, blacken_after}

-- whose event it is: a mutator's, or the collector's
abbrev pub maker : Event → Option ℕ
maker (event.Begin i) = Some i
maker (event.Look i) = Some i
maker (event.Read i place f) = Some i
maker (event.Fetch i place f) = Some i
maker (event.Mark i place) = Some i
maker (event.Write i place f old new) = Some i
maker (event.Store i new) = Some i
maker (event.Claim i c) = Some i
maker (event.Fill i place f value) = Some i
maker (event.Seal i place kind) = Some i
maker (event.Answer i) = Some i
maker (event.Keep i count from copies) = Some i
maker (event.End i) = Some i
maker (event.Over i) = Some i
maker (event.Post target) = None
maker (event.Duty on) = None
maker (event.Poll i) = None
maker (event.AnswerOut i over) = None
maker event.ClearCell = None
maker event.Anchor = None
maker (event.See c) = None
maker event.Scan = None
maker event.Shade = None
maker event.Blacken = None
maker event.SweepLook = None
maker event.Wipe = None
maker event.Free = None
maker event.Whiten = None
maker event.Advance = None

-- the event can happen
abbrev pub can : State → Event → Bool
can s (event.Begin i) = begin_can s i
can s (event.Look i) = look_can s i
can s (event.Read i place f) = read_can s i place f
can s (event.Fetch i place f) = fetch_can s i place f
can s (event.Mark i place) = mark_can s i place
can s (event.Write i place f old new) = write_can s i place f old new
can s (event.Store i new) = store_can s i new
can s (event.Claim i c) = claim_can s i c
can s (event.Fill i place f value) = fill_can s i place f value
can s (event.Seal i place kind) = seal_can s i place
can s (event.Answer i) = answer_can s i
can s (event.Keep i count from copies) = keep_can s i count from copies
can s (event.End i) = end_can s i
can s (event.Over i) = over_can s i
can s (event.Post target) = post_can s target
can s (event.Duty on) = duty_can s
can s (event.Poll i) = poll_can s i
can s (event.AnswerOut i over) = answer_out_can s i
can s event.ClearCell = clear_can s
can s event.Anchor = anchor_can s
can s (event.See c) = see_can s c
can s event.Scan = scan_can s
can s event.Shade = shade_can s
can s event.Blacken = blacken_can s
can s event.SweepLook = sweep_look_can s
can s event.Wipe = wipe_can s
can s event.Free = free_can s
can s event.Whiten = whiten_can s
can s event.Advance = advance_can s

-- what the event finds
abbrev pub found_by : State → Event → Found
found_by s (event.Begin i) = begin_found s i
found_by s (event.Look i) = look_found s i
found_by s (event.Read i place f) = read_found s i place f
found_by s (event.Fetch i place f) = fetch_found s i place f
found_by s (event.Mark i place) = mark_found s i place
found_by s (event.Write i place f old new) = write_found s i place f
found_by s (event.Store i new) = finds.Stored
found_by s (event.Claim i c) = claim_found s c
found_by s (event.Fill i place f value) = finds.Stored
found_by s (event.Seal i place kind) = finds.Stored
found_by s (event.Answer i) = finds.Stored
found_by s (event.Keep i count from copies) = keep_found s i
found_by s (event.End i) = end_found s i
found_by s (event.Over i) = over_found s i
found_by s (event.Post target) = finds.Stored
found_by s (event.Duty on) = finds.Stored
found_by s (event.Poll i) = poll_found s i
found_by s (event.AnswerOut i over) = answer_out_found s i
found_by s event.ClearCell = clear_found s
found_by s event.Anchor = anchor_found s
found_by s (event.See c) = see_found s c
found_by s event.Scan = scan_found s
found_by s event.Shade = shade_found s
found_by s event.Blacken = finds.Stored
found_by s event.SweepLook = sweep_look_found s
found_by s event.Wipe = finds.Stored
found_by s event.Free = finds.Stored
found_by s event.Whiten = finds.Stored
found_by s event.Advance = finds.Stored

-- what the event leaves
abbrev pub after : State → Event → State
after s (event.Begin i) = begin_after s i
after s (event.Look i) = look_after s i
after s (event.Read i place f) = read_after s i place f
after s (event.Fetch i place f) = fetch_after s i place f
after s (event.Mark i place) = mark_after s i place
after s (event.Write i place f old new) = write_after s i place f old new
after s (event.Store i new) = store_after s i new
after s (event.Claim i c) = claim_after s i c
after s (event.Fill i place f value) = fill_after s i place f value
after s (event.Seal i place kind) = seal_after s i place kind
after s (event.Answer i) = answer_after s i
after s (event.Keep i count from copies) = keep_after s i count from copies
after s (event.End i) = end_after s i
after s (event.Over i) = over_after s i
after s (event.Post target) = post_after s target
after s (event.Duty on) = duty_after s on
after s (event.Poll i) = poll_after s i
after s (event.AnswerOut i over) = answer_out_after s i over
after s event.ClearCell = clear_after s
after s event.Anchor = anchor_after s
after s (event.See c) = see_after s c
after s event.Scan = scan_after s
after s event.Shade = shade_after s
after s event.Blacken = blacken_after s
after s event.SweepLook = sweep_look_after s
after s event.Wipe = wipe_after s
after s event.Free = free_after s
after s event.Whiten = whiten_after s
after s event.Advance = advance_after s

abbrev pub when : Bool → State → Option State
when true s = Some s
when false s = None

-- the successor, where the event can happen
abbrev pub next : State → Event → Option State
next s e = when (can s e) (after s e)
