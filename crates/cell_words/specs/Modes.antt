-- What the collector asks of the mutators, and what a mutator chooses by its status and one look at
-- the control.
-- Source: Doligez and Leroy, POPL 1993, and Doligez and Gonthier, POPL 1994 (handshakes, the
-- colour of a new cell, the write barrier).
-- This project's: the stage Clear, in which the statuses stand as in Sync1.
use Rattle.std.specs.Prelude.{ℕ, nat_lt, if◌then◌else◌}
use Rattle.cell_words.specs.declared.colours.Colour.{Colour}
use Rattle.cell_words.specs.declared.colours.Colour.TheVariants.{White, Black}
use Rattle.cell_words.specs.declared.controls.Control.{Control}
use Rattle.cell_words.specs.declared.controls.Stage.{Stage}
use Rattle.cell_words.specs.declared.controls.Stage.TheVariants as stages
use Rattle.cell_words.specs.declared.presences.Status.{Status}
use Rattle.cell_words.specs.declared.presences.Status.TheVariants as statuses
use Rattle.cell_words.specs.declared.write_barrier.Barrier.{Barrier}
use Rattle.cell_words.specs.declared.write_barrier.Barrier.TheVariants.{Nothing, Old, Both}

-- the status that the collector asks for at a stage
abbrev pub requested_of : Stage → Status
requested_of stages.Idle = statuses.Async
requested_of stages.Sync1 = statuses.Sync1
requested_of stages.Clear = statuses.Sync1
requested_of stages.Sync2 = statuses.Sync2
requested_of stages.Trace = statuses.Async
requested_of stages.Sweep = statuses.Async

-- the status that follows by the next answer
abbrev pub next_status_of : Status → Status
next_status_of statuses.Async = statuses.Sync1
next_status_of statuses.Sync1 = statuses.Sync2
next_status_of statuses.Sync2 = statuses.Async

-- the colour of a new cell in the async status: black while the collector marks, and while it
-- sweeps black from its position on
abbrev pub async_claim_colour_of : Stage → ℕ → ℕ → Colour
async_claim_colour_of stages.Idle position cell = White
async_claim_colour_of stages.Sync1 position cell = White
async_claim_colour_of stages.Clear position cell = White
async_claim_colour_of stages.Sync2 position cell = White
async_claim_colour_of stages.Trace position cell = Black
async_claim_colour_of stages.Sweep position cell = if nat_lt cell position then White else Black

-- the colour of a new cell
abbrev pub claim_colour_of : Status → Control → ℕ → Colour
claim_colour_of statuses.Async control cell =
    async_claim_colour_of control.stage control.position cell
claim_colour_of statuses.Sync1 control cell = White
claim_colour_of statuses.Sync2 control cell = White

-- what a write marks in the async status: the old value while the collector traces
abbrev pub async_barrier_of : Stage → Barrier
async_barrier_of stages.Idle = Nothing
async_barrier_of stages.Sync1 = Nothing
async_barrier_of stages.Clear = Nothing
async_barrier_of stages.Sync2 = Nothing
async_barrier_of stages.Trace = Old
async_barrier_of stages.Sweep = Nothing

-- what a write marks
abbrev pub barrier_of : Status → Control → Barrier
barrier_of statuses.Async control = async_barrier_of control.stage
barrier_of statuses.Sync1 control = Both
barrier_of statuses.Sync2 control = Both
