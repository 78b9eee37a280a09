-- How the results of a replay's calls stand to the definitions.
-- Source: this project's.
use Rattle.std.specs.Prelude.{Bool, true, false, [], Option, Some, None}
use Rattle.std.specs.Prelude.{String, string_bytes}
use Rattle.std.specs.declared.alloc.Global.{Global}
use Rattle.core_replay.specs.Standing.{Standing}
use Rattle.core_replay.specs.Turns.{Outcome, Went, Stopped, Turn, Ends, GoesOn}
use Rattle.core_replay.specs.declared.replaying.Turned.{Turned}
use Rattle.core_replay.specs.declared.replaying.Turned.TheVariants as turned

-- the turn that ended so, and left this
abbrev pub turn_with_last : Turned → Standing → Turn
turn_with_last turned.Posted p = Ends (Went [] p)
turn_with_last turned.GoesOn p = GoesOn p
turn_with_last turned.Stuck p = Ends (Stopped p)

-- a step without a text that was taken to its end or not, and left this
abbrev pub outcome_by : Bool → Standing → Outcome
outcome_by true p = Went [] p
outcome_by false p = Stopped p

-- a step that wrote this text, or that could not be taken to its end, and left this
abbrev pub told_by : Option (String Global) → Standing → Outcome
told_by None p = Stopped p
told_by (Some text) p = Went (string_bytes text) p
