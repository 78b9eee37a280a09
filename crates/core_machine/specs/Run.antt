-- Runs: events taken one after the other, each with what it found.
-- Source: this project's.
use Rattle.std.specs.Prelude.{◌≡◌, true, List, [], ◌∷◌}
use Rattle.core_machine.specs.declared.events.Taken.{Taken}
use Rattle.core_machine.specs.Next.{can, found_by, after}
use Rattle.core_machine.specs.State.{State}

-- from the state on each event can happen when its turn comes, and finds what is told of it
abbrev pub Runs : State → List Taken → Type 0
Runs s [] = Unit {0}
Runs s (t ∷ ts) = (can s t.event ≡ true) × (t.found ≡ found_by s t.event)
    × Runs (after s t.event) ts

-- the state after the last event
abbrev pub last : State → List Taken → State
last s [] = s
last s (t ∷ ts) = last (after s t.event) ts
