-- One move of the collector at a time: what holds between two moves, and what a move tells.
-- Source: this project's.
use Rattle.std.specs.Prelude.{ℕ, ◌≡◌, ◌≤◌, ◌<◌, ◌-◌, ◌++◌, true, false, List, [], ◌∷◌, replicate}
use Rattle.std.specs.Prelude.{Option, Some, None, IfSome}
use Rattle.cell_words.specs.declared.controls.Stage.{Stage}
use Rattle.cell_words.specs.declared.controls.Stage.TheVariants as stage
use Rattle.core_machine.specs.Words.{is_handshake}
use Rattle.core_machine.specs.declared.progress.Sweeping.TheVariants as sweeping
use Rattle.collector.specs.Bound.{Bound, cells_of, control_of, mutators_of, part_of}
use Rattle.collector.specs.Counting.{Does, frees, nothing}
use Rattle.collector.specs.Offering.{freed_since}
use Rattle.collector.specs.Stretches.{Kept}
use Rattle.collector.specs.Underway.{Begins, Ends, Leads}
use Rattle.collector.specs.declared.report.CycleReport.{CycleReport}
use Rattle.collector.specs.declared.stepping.Step.{Step}
use Rattle.collector.specs.declared.stepping.Went.{Went}
use Rattle.collector.specs.declared.stepping.Went.TheVariants as wents

-- the cells that a move has freed: one, or none
abbrev pub freed_in : Option ℕ → List ℕ
freed_in None = []
freed_in (Some cell) = cell ∷ []

-- what they count for
abbrev pub counted_in : Option ℕ → CycleReport
counted_in None = nothing
counted_in (Some cell) = frees 1

module _ {P : Type 0} where
  -- What holds between two moves, by the stage.

  -- The mutators below this number have answered this handshake, and the others have not; no scan
  -- is under way.
  pub record IsAsking (heard : ℕ) (c : Bound P) : Type 0 where
    pub few : heard ≤ mutators_of c
    pub answers : (part_of c).answered
        ≡ replicate heard true ++ replicate (mutators_of c - heard) false
    pub scan : (part_of c).scan ≡ None

  pub record IsClearing (c : Bound P) : Type 0 where
    pub within : (part_of c).cursor ≤ cells_of c
    pub scan : (part_of c).scan ≡ None

  -- tracing begins when the last mutator has answered
  pub record IsTracing (heard : ℕ) (c : Bound P) : Type 0 where
    pub asking : IsAsking heard c
    pub within : (part_of c).cursor ≤ cells_of c

  -- the cell at the position is untouched
  pub record IsSweeping (c : Bound P) : Type 0 where
    pub within : (control_of c).position ≤ cells_of c
    pub fresh : (part_of c).sweep ≡ sweeping.Fresh

  abbrev pub StepsAt : Stage → ℕ → Bound P → Type 0
  StepsAt stage.Idle heard c = Unit {0}
  StepsAt stage.Sync1 heard c = IsAsking heard c
  StepsAt stage.Clear heard c = IsClearing c
  StepsAt stage.Sync2 heard c = IsAsking heard c
  StepsAt stage.Trace heard c = IsTracing heard c
  StepsAt stage.Sweep heard c = IsSweeping c

  -- At rest any collector may be moved on.
  abbrev pub Steps : ℕ → Bound P → Type 0
  Steps heard c = StepsAt (control_of c).stage heard c

  -- What a move tells.

  abbrev pub FirstMove : Went → Bound P → Bound P → Type 0
  FirstMove wents.More old new = Begins old new
  FirstMove wents.Asks old new = ⊥
  FirstMove wents.Ended old new = ⊥

  abbrev pub LaterMove : Went → CycleReport → Bound P → Bound P → Type 0
  LaterMove wents.More came old new = Does came old new
  LaterMove wents.Asks came old new = Does came old new
  LaterMove wents.Ended came old new = Ends old new

  -- at this stage
  abbrev pub Told : Stage → Went → CycleReport → Bound P → Bound P → Type 0
  Told stage.Idle went came old new = FirstMove went old new
  Told stage.Sync1 went came old new = LaterMove went came old new
  Told stage.Clear went came old new = LaterMove went came old new
  Told stage.Sync2 went came old new = LaterMove went came old new
  Told stage.Trace went came old new = LaterMove went came old new
  Told stage.Sweep went came old new = LaterMove went came old new

  -- When a move asks.

  -- A handshake is under way, and the next mutator had not answered and could not be answered for.
  pub record IsStopped (at : Stage) (heard next : ℕ) (c : Bound P) : Type 0 where
    pub asks : is_handshake at ≡ true
    pub there : heard < mutators_of c
    pub same : next ≡ heard

  abbrev pub Stops : Went → Stage → ℕ → ℕ → Bound P → Type 0
  Stops wents.More at heard next old = Unit {0}
  Stops wents.Asks at heard next old = IsStopped at heard next old
  Stops wents.Ended at heard next old = Unit {0}

  -- All that a move at this stage does.
  pub record Moved (at : Stage) (step : Step) (old new : Bound P) : Type 0 where
    pub steps : Steps step.heard new
    pub told : Told at step.went step.came old new
    pub leads : Leads at step.went step.came old new
    pub kept : Kept old new
    pub freed : freed_since old new ≡ freed_in step.freed
    pub there : IfSome step.freed (λ cell. cell < cells_of old)
