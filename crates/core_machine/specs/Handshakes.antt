-- The collector's handshakes: the events Post, Duty, Poll and AnswerOut. When each can happen, what
-- it finds and what it leaves, which is told of every state, also where it cannot happen.
-- Source: Doligez and Leroy, POPL 1993, and Doligez and Gonthier, POPL 1994 (the three handshakes);
-- this project's (the stage Clear, answers for mutators that are out, duty).
use Rattle.std.specs.Prelude.{ℕ, Bool, not, ◌&&◌, ◌==◌, nat_lt, slice_set, is_none}
use Rattle.cell_words.specs.Modes.{requested_of}
use Rattle.cell_words.specs.declared.controls.Stage.{Stage}
use Rattle.cell_words.specs.declared.controls.Stage.TheVariants as stage
use Rattle.cell_words.specs.declared.presences.Status.{Status}
use Rattle.core_machine.specs.declared.events.Found.{Found}
use Rattle.core_machine.specs.declared.events.Found.TheVariants as finds
use Rattle.core_machine.specs.declared.events.Event.{Event}
use Rattle.core_machine.specs.declared.events.Event.TheVariants as event
use Rattle.core_machine.specs.Collector.{collector_after, control_after}
use Rattle.core_machine.specs.State.{State, greatest_cycles, presence_of, has_answered}
use Rattle.core_machine.specs.State.{all_answered}
use Rattle.core_machine.specs.Words.{same_stage, is_handshake, answered_out}

-- Tests and readers that many kinds use.

abbrev pub at_stage : State → Stage → Bool
at_stage s wanted = same_stage s.control.stage wanted

-- the cursor has come past the last cell
abbrev pub at_end : State → Bool
at_end s = s.collector.cursor == s.cells

abbrev pub is_mutator : State → ℕ → Bool
is_mutator s i = nat_lt i s.mutators

-- the status that the stage asks for
abbrev pub wanted_of : State → Status
wanted_of s = requested_of s.control.stage

-- what the collector's own part and the control are after an event of it
abbrev pub tell_collector : State → Event → Found → State
tell_collector s e found =
    record s { collector = collector_after s.cells s.control s.collector e found }

abbrev pub tell_control : State → Event → State
tell_control s e = record s { control = control_after s.control e }

-- Post: the stages follow one another in one order, each when the one before has done its work.

abbrev pub post_can : State → Stage → Bool
post_can s stage.Idle = at_stage s stage.Sweep && (s.control.position == s.cells)
post_can s stage.Sync1 = at_stage s stage.Idle && nat_lt s.control.cycles greatest_cycles
post_can s stage.Clear = at_stage s stage.Sync1 && all_answered s
post_can s stage.Sync2 = at_stage s stage.Clear && at_end s
post_can s stage.Trace = at_stage s stage.Sync2 && all_answered s && s.collector.anchor_marked
post_can s stage.Sweep =
    at_stage s stage.Trace && all_answered s && is_none s.collector.scan && at_end s &&
    s.collector.clean

abbrev pub post_after : State → Stage → State
post_after s target = tell_control (tell_collector s (event.Post target) finds.Stored)
    (event.Post target)

-- Duty.

abbrev pub duty_can : State → Bool
duty_can s = at_stage s stage.Idle

abbrev pub duty_after : State → Bool → State
duty_after s on = tell_control s (event.Duty on)

-- Poll.

abbrev pub poll_can : State → ℕ → Bool
poll_can s i = is_handshake s.control.stage && is_mutator s i

abbrev pub poll_found : State → ℕ → Found
poll_found s i = finds.Presence (presence_of s i)

abbrev pub poll_after : State → ℕ → State
poll_after s i = tell_collector s (event.Poll i) (poll_found s i)

-- AnswerOut.

abbrev pub answer_out_can : State → ℕ → Bool
answer_out_can s i = is_handshake s.control.stage && is_mutator s i && not (has_answered s i)

abbrev pub answer_out_found : State → ℕ → Found
answer_out_found s i = finds.Presence (presence_of s i)

abbrev pub answer_out_after : State → ℕ → Bool → State
answer_out_after s i over =
    tell_collector (record s {
      presences = slice_set s.presences i (answered_out (wanted_of s) over (presence_of s i));
    }) (event.AnswerOut i over) (answer_out_found s i)
