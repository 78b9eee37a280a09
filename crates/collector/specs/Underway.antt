-- A cycle that is made by moves, from its first event on: how far it is, and what it amounts to.
-- Source: this project's.
use Rattle.std.specs.Prelude.{◌≡◌, ◌<◌, Bool, true, false, is_some, length}
use Rattle.std.specs.List.{list_all}
use Rattle.cell_heap.specs.Telling.{FindsKnown}
use Rattle.cell_words.specs.declared.controls.Stage.{Stage}
use Rattle.cell_words.specs.declared.controls.Stage.TheVariants as stage
use Rattle.core_machine.specs.declared.events.Event.TheVariants as event
use Rattle.core_machine.specs.declared.events.Found.TheVariants as finds
use Rattle.collector.specs.Bound.{Bound, control_of, mutators_of, takes}
use Rattle.collector.specs.Counting.{Does, nothing, plus}
use Rattle.collector.specs.Cycles.{Reported}
use Rattle.collector.specs.Replay.{fresh_work_of}
use Rattle.collector.specs.Stack.{emptied}
use Rattle.collector.specs.Stretches.{Stretch}
use Rattle.collector.specs.declared.report.CycleReport.{CycleReport}
use Rattle.collector.specs.declared.stepping.Went.{Went}
use Rattle.collector.specs.declared.stepping.Went.TheVariants as wents

-- the move ended a cycle
abbrev pub is_ended : Went → Bool
is_ended wents.More = false
is_ended wents.Asks = false
is_ended wents.Ended = true

module _ {P : Type 0} where
  -- a cycle begins, with nothing on the stack
  abbrev pub Begins : Bound P → Bound P → Type 0
  Begins old new =
      (new ≡ takes (record old { stack = emptied old.stack }) (event.Post stage.Sync1) finds.Stored)
      × FindsKnown old.seat.me (event.Post stage.Sync1) finds.Stored

  -- clearing begins
  abbrev pub Clears : Bound P → Bound P → Type 0
  Clears old new = (new ≡ takes old (event.Post stage.Clear) finds.Stored)
      × FindsKnown old.seat.me (event.Post stage.Clear) finds.Stored

  -- the cycle's last event
  abbrev pub Ends : Bound P → Bound P → Type 0
  Ends old new = (new ≡ takes old (event.Post stage.Idle) finds.Stored)
      × FindsKnown old.seat.me (event.Post stage.Idle) finds.Stored

  -- The collector was at rest at the start, and its first handshake is under way.
  pub record IsInFirst (report : CycleReport) (start now : Bound P) : Type 0 where
    pub begun : Bound P
    pub begins : Begins start begun
    pub does : Does report begun now
    pub none : report ≡ nothing

  -- The first handshake is over, and what came after it amounts to this. Where it found every
  -- mutator over, the collector knew the state then.
  pub record IsPastFirst (report : CycleReport) (start now : Bound P) : Type 0 where
    pub begun : Bound P
    pub heard : Bound P
    pub cleared : Bound P
    pub begins : Begins start begun
    pub hears : Does nothing begun heard
    pub at : (control_of heard).stage ≡ stage.Sync1
    pub each : length heard.seat.me.over ≡ mutators_of heard
    pub knows : 0 < mutators_of heard → list_all (λ found. found) heard.seat.me.over ≡ true
        → is_some heard.seat.me.alone ≡ true
    pub clears : Clears heard cleared
    pub does : Does report cleared now

  abbrev pub IsUnderwayAt : Stage → CycleReport → Bound P → Bound P → Type 0
  IsUnderwayAt stage.Idle report start now = ⊥
  IsUnderwayAt stage.Sync1 report start now = IsInFirst report start now
  IsUnderwayAt stage.Clear report start now = IsPastFirst report start now
  IsUnderwayAt stage.Sync2 report start now = IsPastFirst report start now
  IsUnderwayAt stage.Trace report start now = IsPastFirst report start now
  IsUnderwayAt stage.Sweep report start now = IsPastFirst report start now

  -- A cycle has begun at the start, is not at its end, and amounts to this so far.
  abbrev pub IsUnderway : CycleReport → Bound P → Bound P → Type 0
  IsUnderway report start now = IsUnderwayAt (control_of now).stage report start now

  -- After one move more it amounts to more, or is a whole one, and the report says what it is.
  abbrev pub WentOn : Went → CycleReport → CycleReport → Bound P → Bound P → Type 0
  WentOn wents.More so_far came start now = IsUnderway (plus so_far came) start now
  WentOn wents.Asks so_far came start now = IsUnderway (plus so_far came) start now
  WentOn wents.Ended so_far came start now =
      Stretch (Reported (fresh_work_of start) (mutators_of start) so_far) start now

  -- a cycle that was underway at this stage goes on
  abbrev pub Leads : Stage → Went → CycleReport → Bound P → Bound P → Type 0
  Leads at went came old new = (start : Bound P) (so_far : CycleReport)
      → IsUnderwayAt at so_far start old → WentOn went so_far came start new
