-- How many more cycles the collector has to make.
-- Source: this project's.
use Rattle.std.specs.Prelude.{ℕ, ◌≡◌, Bool, true, false, not, List}
use Rattle.std.specs.List.{count_by, list_all}
use Rattle.core_machine.specs.declared.events.Taken.{Taken}
use Rattle.collector.specs.Counting.{is_duty, is_free}
use Rattle.collector.specs.Cycles.{AfterOver, Wholes}
use Rattle.collector.specs.declared.serving.Rest.{Rest}
use Rattle.collector.specs.declared.serving.Rest.TheVariants as rests

abbrev pub is_done : Rest → Bool
is_done rests.Unknown = false
is_done rests.Two = false
is_done rests.One = false
is_done rests.Done = true

abbrev pub next_rest : Rest → Bool → Rest
next_rest rests.Unknown true = rests.Two
next_rest rests.Unknown false = rests.Unknown
next_rest rests.Two over = rests.One
next_rest rests.One over = rests.Done
next_rest rests.Done over = rests.Done

-- what so many cycles have done, by what is left
abbrev pub Serving : Rest → ℕ → ℕ → List Taken → Type 0
Serving rests.Unknown mutators count events = Wholes count events
Serving rests.Two mutators count events = AfterOver 0 mutators count events
Serving rests.One mutators count events = AfterOver 1 mutators count events
Serving rests.Done mutators count events = AfterOver 2 mutators count events

-- with the cells that they freed, and no word of duty
pub record ServesOn (rest : Rest) (mutators count freed : ℕ) (events : List Taken) : Type 0 where
  pub serving : Serving rest mutators count events
  pub freed_are : count_by (λ (t : Taken). is_free t.event) events ≡ freed
  pub no_duty : list_all (λ (t : Taken). not (is_duty t.event)) events ≡ true
