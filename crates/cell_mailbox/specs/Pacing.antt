-- How long the collector waits for a mutator that works on a mailbox: for at most so many of its
-- reads.
-- Source: this project's.
use Rattle.std.specs.Prelude.{ℕ, ◌≤◌, ◌+◌, List, [], ◌∷◌, ◌++◌, if◌then◌else◌}
use Rattle.cell_words.specs.declared.presences.Status.{Status}
use Rattle.core_machine.specs.declared.events.Event.{Event}
use Rattle.core_machine.specs.declared.events.Event.TheVariants as event
use Rattle.core_machine.specs.declared.events.Found.{Found}
use Rattle.core_machine.specs.declared.events.Taken.{Taken}
use Rattle.mail_rule.specs.declared.mail_pass.MailPass.{MailPass}
use Rattle.mutator_seat.specs.Bound.{Bound}
use Rattle.mutator_seat.specs.Pacing.{Grew, asks, status_on}

-- The reads since the last point at which the mutator owed the collector no answer: an answer, or a
-- look that asks for none.
abbrev pub reads_on : Status → ℕ → Event → Found → ℕ
reads_on own n (event.Look i) found = if asks own found then n else 0
reads_on own n (event.Answer i) found = 0
reads_on own n (event.Read i place f) found = n + 1
reads_on own n _ found = n

-- They are never more than five, where there were n of them before the first event.
abbrev pub AnswersInTime : Status → ℕ → List Taken → Type 0
AnswersInTime own n [] = n ≤ 5
AnswersInTime own n (t ∷ ts) =
    (n ≤ 5) × AnswersInTime (status_on own t.event) (reads_on own n t.event t.found) ts

-- The same of a part of a call: after n reads these events are in time, if what follows them is in
-- time after m.
abbrev pub Leads : Status → ℕ → Status → ℕ → List Taken → Type 0
Leads own n last m events =
    (rest : List Taken) → AnswersInTime last m rest → AnswersInTime own n (events ++ rest)

-- a call that answers in time
abbrev pub Prompt : Bound MailPass → Bound MailPass → Type 0
Prompt old new = Grew (AnswersInTime old.seat.me.presence.status 0) old new

-- a part of it that begins after at most n reads and ends after at most m
abbrev pub Paces : ℕ → ℕ → Bound MailPass → Bound MailPass → Type 0
Paces n m old new =
    Grew (Leads old.seat.me.presence.status n new.seat.me.presence.status m) old new

-- a part that reads so often, whatever was read before it
abbrev pub ReadsTimes : ℕ → Bound MailPass → Bound MailPass → Type 0
ReadsTimes k old new = (n : ℕ) → n + k ≤ 5 → Paces n (n + k) old new
