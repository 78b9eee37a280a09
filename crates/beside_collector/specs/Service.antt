-- The collector's trail of a whole run, whatever ran alongside it.
-- Source: this project's.
use Rattle.std.specs.Prelude.{ℕ, ◌≡◌, ◌++◌, ◌⊎◌, Bool, true, false, List, [], ◌∷◌}
use Rattle.beside_collector.specs.Duty.{duty_on}
use Rattle.beside_collector.specs.Serving.{off_first}
use Rattle.collector.specs.Cycles.{Served}
use Rattle.collector.specs.Over.{MeetOver}
use Rattle.core_machine.specs.declared.events.Event.TheVariants as event
use Rattle.core_machine.specs.declared.events.Found.TheVariants as finds
use Rattle.core_machine.specs.declared.events.Taken.{Taken}
use Rattle.heap_rule.specs.Rule.{took}
use Rattle.heap_rule.specs.declared.view.View.{View}

-- On duty if it may make cycles; then off duty, if it had no thread of its own; then the service,
-- which ends with off duty. Among the cycles of a service it does not go off duty. A collector that
-- went off duty first serves after the work.
pub record IsService (most mutators count : ℕ) (trail : List Taken) : Type 0 where
  pub off : List Taken
  pub off_is : (off ≡ []) ⊎ (off ≡ took (event.Duty false) finds.Stored ∷ [])
  pub served : List Taken
  pub trail_is : trail ≡ duty_on most ++ (off ++ served)
  -- whole cycles, and fewer than it may make only where two of them began after every mutator was
  -- found over; and then off duty
  pub freed : ℕ
  pub serves : Served mutators most count freed served
  -- where it went off duty first, each Poll and each AnswerOut found its mutator over
  pub late : off ≡ took (event.Duty false) finds.Stored ∷ [] → MeetOver served

-- What the collector's seat has when its heap is closed: this trail, and a cycle counted for each
-- that it made.
pub record HasServed {P : Type 0} (most mutators : ℕ) (v : View P) : Type 0 where
  pub held_back : Bool
  pub made : ℕ
  pub freed : ℕ
  pub added : List Taken
  pub trail : v.trail ≡ duty_on most ++ (off_first held_back ++ added)
  pub served : Served mutators most made freed added
  pub late : held_back ≡ true → MeetOver added
  pub cycles : v.control.cycles ≡ made
