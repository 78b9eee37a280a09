-- Runs, event by event.
use Rattle.std.proofs.Common.{◌≡◌, Bool, true, List, [], ◌∷◌, ◌++◌, Some, refl, ap}
use Rattle.core_machine.specs.declared.events.Event.{Event}
use Rattle.core_machine.specs.declared.events.Taken.{Taken}
use Rattle.core_machine.specs.InRange.{InRange, IsShaped}
use Rattle.core_machine.specs.Next.{can, found_by, after, when, next}
use Rattle.core_machine.specs.Run.{Runs, last}
use Rattle.core_machine.specs.State.{State}
use Rattle.core_machine.proofs.Ranges.Events.{after_keeps, after_shaped}

-- an event that can happen has what it leaves as its successor
pub some_when : (s : State) (e : Event) → can s e ≡ true → next s e ≡ Some (after s e)
some_when s e is = ap (λ (b : Bool). when b (after s e)) is

-- one event more
pub runs_snoc : (s : State) (ts : List Taken) (t : Taken) → Runs s ts
    → can (last s ts) t.event ≡ true
    → t.found ≡ found_by (last s ts) t.event → Runs s (ts ++ t ∷ [])
runs_snoc s [] t runs happens found = (happens, found, tt)
runs_snoc s (u ∷ us) t runs happens found =
    (runs.0, runs.1, runs_snoc (after s u.event) us t runs.2 happens found)

pub last_snoc : (s : State) (ts : List Taken) (t : Taken)
    → last s (ts ++ t ∷ []) ≡ after (last s ts) t.event
last_snoc s [] t = refl
last_snoc s (u ∷ us) t = last_snoc (after s u.event) us t

-- two runs, one after the other
pub runs_append : (s : State) (ts us : List Taken) → Runs s ts → Runs (last s ts) us
    → Runs s (ts ++ us)
runs_append s [] us first rest = rest
runs_append s (t ∷ ts) us first rest =
    (first.0, first.1, runs_append (after s t.event) ts us first.2 rest)

pub last_append : (s : State) (ts us : List Taken) → last s (ts ++ us) ≡ last (last s ts) us
last_append s [] us = refl
last_append s (t ∷ ts) us = last_append (after s t.event) ts us

-- a run from a shaped state leads to shaped ones
pub runs_shaped : (s : State) (ts : List Taken) → IsShaped s → Runs s ts → IsShaped (last s ts)
runs_shaped s [] r runs = r
runs_shaped s (t ∷ ts) r runs =
    runs_shaped (after s t.event) ts (after_shaped s t.event r runs.0) runs.2

-- a run from a state in range stays in range
pub runs_in_range : (s : State) (ts : List Taken) → InRange s → Runs s ts → InRange (last s ts)
runs_in_range s [] r runs = r
runs_in_range s (t ∷ ts) r runs =
    runs_in_range (after s t.event) ts (after_keeps s t.event r runs.0) runs.2
