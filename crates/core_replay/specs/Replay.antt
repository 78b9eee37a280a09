-- The replay text of a schedule.
--
-- The steps are taken one after the other, up to the first that cannot be taken, or of which a
-- part cannot. Nothing further is taken then, and what was taken before stands and counts.
-- Source: this project's.
use Rattle.std.specs.Prelude.{ℕ, ◌≡◌, List, [], ◌∷◌, ◌++◌, nat_lt, Option, Some, None}
use Rattle.std.specs.Prelude.{if◌then◌else◌}
use Rattle.core_replay.specs.ReplayText.{cell_line_of, ending_of, not_now_line}
use Rattle.core_replay.specs.Standing.{Standing, opened, taken_by}
use Rattle.core_replay.specs.Turns.{Outcome, Went, Stopped, PlainLeads}
use Rattle.core_replay.specs.ScheduleValue.{ScheduleValue}
use Rattle.core_replay.specs.declared.line.Numbered.{Numbered}
use Rattle.core_replay.specs.declared.step.Step.{Step}
use Rattle.core_replay.specs.declared.step.Step.TheVariants.{Take, Plain, Show}

-- one event writes nothing
abbrev pub after_event : Standing → Option Standing → Outcome
after_event p None = Stopped p
after_event p (Some q) = Went [] q

-- a cell that there is not cannot be shown
abbrev pub shown : Standing → ℕ → Outcome
shown p c = if nat_lt c p.core.cells then Went (cell_line_of p.core c) p else Stopped p

-- the step leads to the outcome
abbrev pub Leads : Standing → Step → Outcome → Type 0
Leads p (Take e) outcome = outcome ≡ after_event p (taken_by p e)
Leads p Plain outcome = PlainLeads outcome p
Leads p (Show c) outcome = outcome ≡ shown p c

-- what is written from an outcome on, where the steps after it write as the last relation says
abbrev pub WritesOn : ℕ → Outcome → (Standing → List ℕ → Type 0) → List ℕ → Standing → Type 0
WritesOn line (Stopped p) Later text last = (text ≡ not_now_line line) × (last ≡ p)
WritesOn line (Went written p) Later text last = (rest : List ℕ) × (text ≡ written ++ rest)
    × Later p rest

-- from one standing the steps lead to the last one, and write the text
abbrev pub Writes : Standing → List Numbered → List ℕ → Standing → Type 0
Writes p [] text last = (text ≡ []) × (last ≡ p)
Writes p (step ∷ later) text last =
    (outcome : Outcome) × Leads p step.step outcome
    × WritesOn step.line outcome (λ q rest. Writes q later rest last) text last

-- the text: what the steps write, and the two last lines
abbrev pub IsReplayText : ScheduleValue → List ℕ → Type 0
IsReplayText schedule text =
    (last : Standing) × (lines : List ℕ) × Writes (opened schedule.sizes) schedule.steps lines last
    × (text ≡ lines ++ ending_of last)
