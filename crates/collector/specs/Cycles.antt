-- A whole cycle in the collector's own trail, and what a report says of it; cycles in a row, until
-- it is enough.
-- Source: this project's.
use Rattle.std.specs.Prelude.{ℕ, ◌≡◌, ◌<◌, ◌≤◌, ◌+◌, ◌++◌, ◌⊎◌, not, true, false, List, [], ◌∷◌}
use Rattle.std.specs.Prelude.{Bool, IsTrue, length}
use Rattle.std.specs.List.{count_by, list_all}
use Rattle.cell_words.specs.declared.controls.Stage.TheVariants as stage
use Rattle.core_machine.specs.declared.events.Event.TheVariants as event
use Rattle.core_machine.specs.declared.events.Found.TheVariants as finds
use Rattle.core_machine.specs.declared.events.Taken.{Taken}
use Rattle.heap_rule.specs.Rule.{took}
use Rattle.collector.specs.Answering.{AnswersWhoIsOut}
use Rattle.collector.specs.Counting.{goes_on, is_blacken, is_duty, is_free}
use Rattle.collector.specs.Over.{AllOver}
use Rattle.collector.specs.Replay.{Work, count_along, ends_pass, is_shade, spills, stacks}
use Rattle.collector.specs.Replay.{strays}
use Rattle.collector.specs.declared.report.CycleReport.{CycleReport}

-- The events are one whole cycle, in which whoever was found out was answered for.
pub record IsWhole (events : List Taken) : Type 0 where
  pub between : List Taken
  pub whole : events ≡ took (event.Post stage.Sync1) finds.Stored
      ∷ (between ++ took (event.Post stage.Idle) finds.Stored ∷ [])
  pub one : list_all (λ (t : Taken). goes_on t.event) between ≡ true
  pub answers : AnswersWhoIsOut stage.Sync1 between

-- The events of a cycle after its first one: the first handshake's, and the others. Where the
-- first handshake found every mutator over, and nothing was spilled, tracing took two passes.
pub record IsAsked (mutators : ℕ) (report : CycleReport) (events : List Taken) : Type 0 where
  pub asked : List Taken
  pub rest : List Taken
  pub split : events ≡ asked ++ took (event.Post stage.Clear) finds.Stored ∷ rest
  pub two : 0 < mutators → AllOver 0 mutators asked → report.spilled ≡ 0 → report.passes ≡ 2

-- the events are one whole cycle, from this work on, and the report counts what they are
pub record Reported (from : Work) (mutators : ℕ) (report : CycleReport) (events : List Taken)
    : Type 0 where
  pub cycle : IsWhole events
  pub first : IsAsked mutators report cycle.between
  pub passes_are : count_along ends_pass from events ≡ report.passes
  pub scanned_are : count_by (λ (t : Taken). is_blacken t.event) events ≡ report.scanned
  pub freed_are : count_by (λ (t : Taken). is_free t.event) events ≡ report.freed
  pub stacked_are : count_along stacks from events ≡ report.stacked
  pub spilled_are : count_along spills from events ≡ report.spilled
  pub straight : count_along strays from events ≡ 0
  pub shaded : count_by (λ (t : Taken). is_shade t.event) events ≡ report.stacked + report.spilled

-- and where the flag says so they found every mutator over
pub record Heard (from : Work) (mutators : ℕ) (report : CycleReport) (over : Bool)
    (events : List Taken) : Type 0 where
  pub reported : Reported from mutators report events
  pub over_so : IsTrue over → AllOver 0 mutators events

-- Cycles in a row.

abbrev pub joined : List (List Taken) → List Taken
joined [] = []
joined (xs ∷ xss) = xs ++ joined xss

abbrev pub AreWhole : List (List Taken) → Type 0
AreWhole [] = Unit {0}
AreWhole (xs ∷ xss) = IsWhole xs × AreWhole xss

-- so many whole cycles
pub record Wholes (count : ℕ) (events : List Taken) : Type 0 where
  pub cycles : List (List Taken)
  pub split : events ≡ joined cycles
  pub whole : AreWhole cycles
  pub many : length cycles ≡ count

-- so many, of which the last ones began after every mutator was found over
pub record AfterOver (later mutators count : ℕ) (events : List Taken) : Type 0 where
  pub before : List Taken
  pub after : List Taken
  pub first : ℕ
  pub split : events ≡ before ++ after
  pub first_whole : Wholes first before
  pub over : AllOver 0 mutators before
  pub later_whole : Wholes later after
  pub many : count ≡ first + later

-- So many whole cycles, which freed so many cells. There are fewer than there might be only where
-- two of them began after every mutator was found over.
pub record MadeCycles (mutators most count freed : ℕ) (events : List Taken) : Type 0 where
  pub whole : Wholes count events
  pub most_are : count ≤ most
  pub why : (count ≡ most) ⊎ AfterOver 2 mutators count events
  pub freed_are : count_by (λ (t : Taken). is_free t.event) events ≡ freed
  pub no_duty : list_all (λ (t : Taken). not (is_duty t.event)) events ≡ true

-- such cycles, and then off duty
pub record Served (mutators most count freed : ℕ) (events : List Taken) : Type 0 where
  pub made : List Taken
  pub split : events ≡ made ++ took (event.Duty false) finds.Stored ∷ []
  pub cycles : MadeCycles mutators most count freed made
