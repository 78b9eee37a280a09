-- The events of a mutator i that change no word of a cell: Begin, Look, Read, Fetch, Answer, Keep,
-- End and Over. When each can happen, what it finds and what it leaves, which is told of every
-- state, also where it cannot happen.
--
-- A mutator acts while it is in; Begin and Over alone need that it is out. `place` is an index into
-- its held list.
-- Source: Doligez and Leroy, POPL 1993, and Doligez and Gonthier, POPL 1994 (the handshakes); this
-- project's (held lists with marks, modes, operations).
use Rattle.std.specs.Prelude.{ℕ, ◌+◌, Bool, not, ◌&&◌, ◌||◌, nat_lt, nat_le, length, slice_set}
use Rattle.std.specs.Prelude.{is_some}
use Rattle.cell_words.specs.declared.presences.Status.TheVariants as status
use Rattle.cell_words.specs.declared.write_barrier.Barrier.{Barrier}
use Rattle.cell_words.specs.declared.presences.Status.{Status}
use Rattle.cell_words.specs.Modes.{next_status_of}
use Rattle.core_machine.specs.declared.events.Found.{Found}
use Rattle.core_machine.specs.declared.events.Found.TheVariants as finds
use Rattle.core_machine.specs.declared.events.Event.{Event}
use Rattle.core_machine.specs.declared.events.Event.TheVariants as event
use Rattle.core_machine.specs.Own.{own_after, presence_after}
use Rattle.core_machine.specs.Places.{all_marked}
use Rattle.core_machine.specs.State.{State, field_of, room_of, presence_of, own_of, held_of}
use Rattle.core_machine.specs.State.{target_of, is_box}
use Rattle.core_machine.specs.Words.{same_status, barrier_in, lets_store, requests}

-- Tests that many kinds make.

abbrev pub is_in : State → ℕ → Bool
is_in s i = (presence_of s i).inside

-- out, and it may begin
abbrev pub may_begin : State → ℕ → Bool
may_begin s i = not (presence_of s i).inside && not (presence_of s i).over

abbrev pub is_place : State → ℕ → ℕ → Bool
is_place s i place = nat_lt place (length (held_of s i))

-- one cell more may be held
abbrev pub has_room : State → ℕ → Bool
has_room s i = nat_lt (length (held_of s i)) (room_of s i)

abbrev pub has_mode : State → ℕ → Bool
has_mode s i = is_some (own_of s i).mode

-- a write is begun and not ended
abbrev pub has_pending : State → ℕ → Bool
has_pending s i = is_some (own_of s i).pending

-- an ordinary store may be begun
abbrev pub own_lets_store : State → ℕ → Bool
own_lets_store s i = lets_store (presence_of s i).status (own_of s i).mode

-- what the mutator has to mark before a write
abbrev pub own_barrier : State → ℕ → Barrier
own_barrier s i = barrier_in (presence_of s i).status (own_of s i).mode

-- the part of its own that an event of mutator i leaves, and its presence
abbrev pub tell_own : State → ℕ → Event → Found → State
tell_own s i e found = record s { owns = slice_set s.owns i (own_after (own_of s i) e found) }

abbrev pub tell_presence : State → ℕ → Event → Found → State
tell_presence s i e found =
    record s { presences = slice_set s.presences i (presence_after (presence_of s i) e found) }

-- Begin.

abbrev pub begin_can : State → ℕ → Bool
begin_can s i = may_begin s i

abbrev pub begin_found : State → ℕ → Found
begin_found s i = finds.Presence (presence_of s i)

abbrev pub begin_after : State → ℕ → State
begin_after s i = tell_presence (tell_own s i (event.Begin i) (begin_found s i)) i (event.Begin i)
    (begin_found s i)

-- Look.

abbrev pub look_can : State → ℕ → Bool
look_can s i = is_in s i && not (has_pending s i)

abbrev pub look_found : State → ℕ → Found
look_found s i = finds.Control s.control

abbrev pub look_after : State → ℕ → State
look_after s i = tell_own s i (event.Look i) (look_found s i)

-- Read.

abbrev pub read_can : State → ℕ → ℕ → ℕ → Bool
read_can s i place f = is_in s i && is_place s i place && nat_le f 4 && has_room s i

abbrev pub read_found : State → ℕ → ℕ → ℕ → Found
read_found s i place f = finds.Field (field_of s (target_of s i place) f)

abbrev pub read_after : State → ℕ → ℕ → ℕ → State
read_after s i place f = tell_own s i (event.Read i place f) (read_found s i place f)

-- Fetch: a read of the field that the mutator is to store. Both values have to be marked before the
-- store, so it stands between the look and the marks.

abbrev pub fetch_can : State → ℕ → ℕ → ℕ → Bool
fetch_can s i place f =
    is_in s i && not (has_pending s i) && own_lets_store s i && is_place s i place && nat_le f 4
    && is_box s (target_of s i place) && has_room s i

abbrev pub fetch_found : State → ℕ → ℕ → ℕ → Found
fetch_found s i place f = finds.Field (field_of s (target_of s i place) f)

abbrev pub fetch_after : State → ℕ → ℕ → ℕ → State
fetch_after s i place f = tell_own s i (event.Fetch i place f) (fetch_found s i place f)

-- Answer. Before the third answer of a cycle, which leads back to async, each place is marked.

abbrev pub next_own_status : State → ℕ → Status
next_own_status s i = next_status_of (presence_of s i).status

-- where the next status is async, each place is marked
abbrev pub third_answer_can : State → ℕ → Bool
third_answer_can s i = not (same_status (next_own_status s i) status.Async) || all_marked
    (held_of s i)

abbrev pub answer_can : State → ℕ → Bool
answer_can s i =
    is_in s i && not (has_pending s i) && requests (own_of s i).mode (next_own_status s i)
    && third_answer_can s i

abbrev pub answer_after : State → ℕ → State
answer_after s i = tell_presence (tell_own s i (event.Answer i) finds.Stored) i
    (event.Answer i) finds.Stored

-- Keep.

abbrev pub keep_can : State → ℕ → ℕ → ℕ → ℕ → Bool
keep_can s i count from copies =
    is_in s i && not (has_pending s i) && nat_le 1 count && nat_le count (length (held_of s i))
    && nat_le (from + copies) (length (held_of s i)) && nat_le (count + copies) (room_of s i)

abbrev pub keep_found : State → ℕ → Found
keep_found s i = finds.Presence (presence_of s i)

abbrev pub keep_after : State → ℕ → ℕ → ℕ → ℕ → State
keep_after s i count from copies = tell_own s i (event.Keep i count from copies) (keep_found s i)

-- End.

abbrev pub end_can : State → ℕ → Bool
end_can s i = is_in s i

abbrev pub end_found : State → ℕ → Found
end_found s i = finds.Presence (presence_of s i)

abbrev pub end_after : State → ℕ → State
end_after s i = tell_presence (tell_own s i (event.End i) (end_found s i)) i (event.End i)
    (end_found s i)

-- Over.

abbrev pub over_can : State → ℕ → Bool
over_can s i = may_begin s i

abbrev pub over_found : State → ℕ → Found
over_found s i = finds.Presence (presence_of s i)

abbrev pub over_after : State → ℕ → State
over_after s i = tell_presence s i (event.Over i) (over_found s i)
