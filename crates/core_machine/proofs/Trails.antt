-- How trails grow along a run, and that each maker knows its own part from its trail.
use Rattle.std.proofs.Common.{◌≡◌, ◌≢◌, ℕ, Bool, true, false, cond, List, [], ◌∷◌, ◌++◌, Option}
use Rattle.std.proofs.Common.{Some, None, refl, sym, ◌∙◌, ap, subst}
use Rattle.std.proofs.lemmas.Bool.{eq-eqb, eqb-true}
use Rattle.std.proofs.lemmas.List.{append-nil}
use Rattle.cell_words.specs.declared.presences.Presence.{Presence}
use Rattle.core_machine.specs.declared.events.Event.{Event}
use Rattle.core_machine.specs.declared.events.Taken.{Taken}
use Rattle.core_machine.specs.Frames.{Knows}
use Rattle.core_machine.specs.InRange.{IsShaped}
use Rattle.core_machine.specs.Next.{can, maker, found_by, after}
use Rattle.core_machine.specs.Own.{Own, own_after, presence_after}
use Rattle.core_machine.specs.Run.{Runs, last}
use Rattle.core_machine.specs.State.{State, own_in, own_of, presence_of}
use Rattle.core_machine.specs.Trail.{same_maker, trail_of, own_along, presence_along, Collecting}
use Rattle.core_machine.specs.Trail.{collecting_of, collecting_after, collecting_along}
use Rattle.core_machine.proofs.Frames.{as_large, mutator_framed, collector_framed, own_mine}
use Rattle.core_machine.proofs.Frames.{own_else, presence_mine, knows_after, knows_else}
use Rattle.core_machine.proofs.Ranges.Events.{after_shaped}

-- Makers.

pub same_maker_is : (who other : Option ℕ) → same_maker who other ≡ true → other ≡ who
same_maker_is None None h = refl
same_maker_is None (Some j) h = absurd cc
same_maker_is (Some i) None h = absurd cc
same_maker_is (Some i) (Some j) h = ap Some (sym (eqb-true i j h))

pub same_maker_self : (who : Option ℕ) → same_maker who who ≡ true
same_maker_self None = refl
same_maker_self (Some i) = eq-eqb i i refl

pub maker_differs : (who other : Option ℕ) → same_maker who other ≡ false → other ≢ who
maker_differs who other h is = let yes = same_maker_self who in let no = subst
    (λ (o : Option ℕ). same_maker who o ≡ false) is h in cc

pub not_same_maker : (who other : Option ℕ) → other ≢ who → same_maker who other ≡ false
not_same_maker who other differs =
    elim (same_maker who other) as (λ b. same_maker who other ≡ b → b ≡ false) [
      | true ↦ λ is. absurd (differs (same_maker_is who other is))
      | false ↦ λ is. refl
    ] refl

-- How a trail grows.

pub trail_append : (who : Option ℕ) (ts us : List Taken) → trail_of who (ts ++ us)
    ≡ trail_of who ts ++ trail_of who us
trail_append who [] us = refl
trail_append who (t ∷ ts) us =
    ap (λ (rest : List Taken). cond (same_maker who (maker t.event)) (t ∷ rest) rest)
    (trail_append who ts us)
    ∙ elim (same_maker who (maker t.event)) as
    (λ b. cond b (t ∷ (trail_of who ts ++ trail_of who us)) (trail_of who ts ++ trail_of who us)
    ≡ cond b (t ∷ trail_of who ts)
    (trail_of who ts) ++ trail_of who us) [ true ↦ refl | false ↦ refl ]

-- its own event stands at the end
pub trail_mine : (who : Option ℕ) (ts : List Taken) (t : Taken) → maker t.event ≡ who
    → trail_of who (ts ++ t ∷ []) ≡ trail_of who ts ++ t ∷ []
trail_mine who ts t made =
    trail_append who ts (t ∷ [])
    ∙ ap (λ (b : Bool). trail_of who ts ++ cond b (t ∷ []) [])
    (ap (same_maker who) made ∙ same_maker_self who)

-- another's is not in it
pub trail_else : (who : Option ℕ) (ts : List Taken) (t : Taken) → maker t.event ≢ who
    → trail_of who (ts ++ t ∷ []) ≡ trail_of who ts
trail_else who ts t made =
    trail_append who ts (t ∷ [])
    ∙ ap (λ (b : Bool). trail_of who ts ++ cond b (t ∷ []) [])
    (not_same_maker who (maker t.event) made)
    ∙ append-nil (trail_of who ts)

-- Along a run what holds of a part and of what is known of it stays, if each event keeps it: one of
-- the maker's own, told of what it finds, and one of any other.
along : {P : Type 0} (step : P → Taken → P) (fold : P → List Taken → P) (Is : State → P
    → Type 0) (who : Option ℕ)
    → ((p : P) → fold p [] ≡ p)
    → ((p : P) (t : Taken) (ts : List Taken) → fold p (t ∷ ts) ≡ fold (step p t) ts)
    → ((s : State) (p : P) (t : Taken) → IsShaped s → can s t.event ≡ true → t.found
    ≡ found_by s t.event
    → maker t.event ≡ who → Is s p → Is (after s t.event) (step p t))
    → ((s : State) (p : P) (t : Taken) → IsShaped s → can s t.event ≡ true → maker t.event ≢ who
    → Is s p → Is (after s t.event) p)
    → (s : State) (p : P) (ts : List Taken) → IsShaped s → Runs s ts → Is s p
    → Is (last s ts) (fold p (trail_of who ts))
along step fold Is who none more mine other s p [] r runs here = subst (Is s) (sym (none p)) here
along step fold Is who none more mine other s p (t ∷ ts) r runs here =
    let shaped = after_shaped s t.event r runs.0 in
    elim (same_maker who (maker t.event)) as
    (λ b. same_maker who (maker t.event) ≡ b
    → Is (last (after s t.event) ts)
    (fold p (cond b (t ∷ trail_of who ts) (trail_of who ts)))) [
      | true ↦ λ is. subst (Is (last (after s t.event) ts)) (sym (more p t (trail_of who ts)))
          (along step fold Is who none more mine other (after s t.event) (step p t) ts shaped runs.2
          (mine s p t r runs.0 runs.1 (same_maker_is who (maker t.event) is) here))
      | false ↦ λ is. along step fold Is who none more mine other
          (after s t.event) p ts shaped runs.2
          (other s p t r runs.0 (maker_differs who (maker t.event) is) here)
    ] refl

-- A mutator's own part is what its trail leaves.

pub own_told : (s : State) (i : ℕ) (own : Own) (ts : List Taken) → IsShaped s → Runs s ts
    → own_of s i ≡ own
    → own_of (last s ts) i ≡ own_along own (trail_of (Some i) ts)
own_told s i own ts r runs here =
    along (λ (o : Own) (t : Taken). own_after o t.event t.found) own_along (λ t o. own_of t i
    ≡ o) (Some i)
    (λ o. refl) (λ o t us. refl)
    (λ t o u shaped h found made is. own_mine t u.event i shaped h made
    ∙ ap (λ (p : Own). own_after p u.event (found_by t u.event)) is
    ∙ ap (own_after o u.event) (sym found))
    (λ t o u shaped h made is. own_other t u.event made ∙ is)
    s own ts r runs here
  where
    by_maker : (t : State) (e : Event) (who : Option ℕ) → maker e ≡ who → who ≢ Some i
        → own_of (after t e) i ≡ own_of t i
    by_maker t e None made differs = ap (λ (owns : List Own). own_in owns i)
        (collector_framed t e made).owns
    by_maker t e (Some j) made differs = own_else t e j i made (λ is. differs (ap Some (sym is)))

    own_other : (t : State) (e : Event) → maker e ≢ Some i → own_of (after t e) i ≡ own_of t i
    own_other t e differs = by_maker t e (maker e) refl differs

-- and what it knows of its presence
pub presence_told : (s : State) (i : ℕ) (mine : Presence) (ts : List Taken) → IsShaped s → Runs s ts
    → Knows mine (presence_of s i)
    → Knows (presence_along mine (trail_of (Some i) ts)) (presence_of (last s ts) i)
presence_told s i mine ts r runs here =
    along (λ (p : Presence) (t : Taken). presence_after p t.event t.found) presence_along
    (λ t p. Knows p (presence_of t i)) (Some i)
    (λ p. refl) (λ p t us. refl)
    (λ t p u shaped h found made k. subst
    (λ f. Knows (presence_after p u.event f) (presence_of (after t u.event) i)) (sym found)
    (subst (Knows (presence_after p u.event (found_by t u.event)))
    (sym (presence_mine t u.event i shaped h made))
    (knows_after p (presence_of t i) u.event (found_by t u.event) k)))
    (λ t p u shaped h made k. knows_else t u.event i p made k)
    s mine ts r runs here

-- The control and the collector's own part are what the collector's trail leaves.

collecting_unmoved : (s : State) (e : Event) → maker e ≢ None → collecting_of (after s e)
    ≡ collecting_of s
collecting_unmoved s e differs = by_maker (maker e) refl differs
  where
    by_maker : (who : Option ℕ) → maker e ≡ who → who ≢ None → collecting_of (after s e)
        ≡ collecting_of s
    by_maker None made differs = absurd (differs refl)
    by_maker (Some j) made differs =
        let frame = mutator_framed s e j made in
        λ k. record { control = frame.control k; part = frame.collector k }

collecting_moved : (s : State) (e : Event) → maker e ≡ None
    → collecting_of (after s e) ≡ collecting_after s.cells (collecting_of s) e (found_by s e)
collecting_moved s e made =
    let frame = collector_framed s e made in
    λ k. record { control = frame.control k; part = frame.collector k }

pub collecting_told : (s : State) (ts : List Taken) → IsShaped s → Runs s ts
    → collecting_of (last s ts) ≡ collecting_along s.cells (collecting_of s) (trail_of None ts)
collecting_told s ts r runs =
    (along (λ (c : Collecting) (t : Taken). collecting_after s.cells c t.event t.found)
    (collecting_along s.cells)
    (λ t c. (t.cells ≡ s.cells) × (collecting_of t ≡ c)) None
    (λ c. refl) (λ c t us. refl)
    (λ t c u shaped h found made is. (
      (as_large t u.event).cells ∙ is.0,
      collecting_moved t u.event made
          ∙ ap (λ (n : ℕ). collecting_after n (collecting_of t) u.event (found_by t u.event)) is.0
          ∙ ap (λ (d : Collecting). collecting_after s.cells d u.event (found_by t u.event)) is.1
          ∙ ap (collecting_after s.cells c u.event) (sym found),
    ))
    (λ t c u shaped h made is. (
      (as_large t u.event).cells ∙ is.0,
      collecting_unmoved t u.event made
          ∙ is.1,
    ))
    s (collecting_of s) ts r runs (refl, refl)).1
