-- A run stays a run where the room of a mutator without events is another one.
use Rattle.std.proofs.Common.{◌≡◌, ◌≢◌, ℕ, ◌+◌, true, false, cond, ◌&&◌, List, [], ◌∷◌, length, set}
use Rattle.std.proofs.Common.{replicate, nat_lt, nat_le, Option, Some, None, refl, sym, ◌∙◌, ap}
use Rattle.std.proofs.Common.{subst, not}
use Rattle.std.proofs.lemmas.List.{get_or-set_other, length-set}
use Rattle.cell_words.specs.declared.controls.Stage.TheVariants as stage
use Rattle.cell_words.specs.declared.fields.Field.{Field}
use Rattle.core_machine.specs.declared.events.Event.{Event}
use Rattle.core_machine.specs.declared.events.Event.TheVariants as event
use Rattle.core_machine.specs.declared.events.Taken.{Taken}
use Rattle.core_machine.specs.Next.{can, maker, found_by, after}
use Rattle.core_machine.specs.Operations.{is_in, has_mode, has_pending, own_lets_store, is_place}
use Rattle.core_machine.specs.Run.{Runs, last}
use Rattle.core_machine.specs.State.{State, room_in, held_of, opening, opening_presence}
use Rattle.core_machine.specs.State.{opening_collector, target_of, is_box}
use Rattle.core_machine.specs.Own.{no_own}
use Rattle.core_machine.specs.Trail.{trail_of, same_maker, roomed}
use Rattle.core_machine.proofs.Trails.{maker_differs}
use Rattle.core_machine.proofs.Frames.{as_large}

-- Only a mutator's own events look at its room: Read, Fetch, Claim and Keep.

pub found_roomed : (s : State) (rooms : List ℕ) (e : Event)
    → found_by (roomed s rooms) e ≡ found_by s e
found_roomed s rooms (event.Begin i) = refl
found_roomed s rooms _ = refl

pub after_roomed : (s : State) (rooms : List ℕ) (e : Event) → after (roomed s rooms) e
    ≡ roomed (after s e) rooms
after_roomed s rooms (event.Begin i) = refl
after_roomed s rooms _ = refl

-- the rooms are the same for this maker
abbrev SameRoom : List ℕ → List ℕ → Option ℕ → Type 0
SameRoom one other None = Unit {0}
SameRoom one other (Some i) = room_in one i ≡ room_in other i

same_can : (s : State) (rooms : List ℕ) (e : Event) → SameRoom rooms s.rooms (maker e)
    → can (roomed s rooms) e ≡ can s e
same_can s rooms (event.Read i place f) same =
    ap (λ (room : ℕ). is_in s i && is_place s i place && nat_le f 4 && nat_lt
    (length (held_of s i)) room) same
same_can s rooms (event.Fetch i place f) same =
    ap (λ (room : ℕ). is_in s i && not (has_pending s i) && own_lets_store s i && is_place s i place
    && nat_le f 4 && is_box s (target_of s i place) && nat_lt (length (held_of s i)) room) same
same_can s rooms (event.Claim i c) same =
    ap (λ (room : ℕ). is_in s i && has_mode s i && not (has_pending s i) && nat_lt c s.cells
    && nat_lt (length (held_of s i)) room) same
same_can s rooms (event.Keep i count from copies) same =
    ap (λ (room : ℕ). is_in s i && not (has_pending s i) && nat_le 1 count
    && nat_le count (length (held_of s i)) && nat_le (from + copies) (length (held_of s i))
    && nat_le (count + copies) room) same
same_can s rooms (event.Post stage.Idle) same = refl
same_can s rooms (event.Post stage.Sync1) same = refl
same_can s rooms (event.Post stage.Clear) same = refl
same_can s rooms (event.Post stage.Sync2) same = refl
same_can s rooms (event.Post stage.Trace) same = refl
same_can s rooms (event.Post stage.Sweep) same = refl
same_can s rooms _ same = refl

other_room : (rooms : List ℕ) (i room : ℕ) (who : Option ℕ) → who ≢ Some i
    → SameRoom (set rooms i room) rooms who
other_room rooms i room None differs = tt
other_room rooms i room (Some j) differs = get_or-set_other rooms i j room 0
    (λ is. differs (ap Some is))

pub can_roomed : (s : State) (i room : ℕ) (e : Event) → maker e ≢ Some i
    → can (roomed s (set s.rooms i room)) e ≡ can s e
can_roomed s i room e differs = same_can s (set s.rooms i room) e
    (other_room s.rooms i room (maker e) differs)

pub last_roomed : (s : State) (rooms : List ℕ) (ts : List Taken) → last (roomed s rooms) ts
    ≡ roomed (last s ts) rooms
last_roomed s rooms [] = refl
last_roomed s rooms (t ∷ ts) =
    ap (λ (u : State). last u ts) (after_roomed s rooms t.event)
    ∙ last_roomed (after s t.event) rooms ts

-- who has no event in a run made neither its first nor a later one
none_first : (who : Option ℕ) (t : Taken) (ts : List Taken) → trail_of who (t ∷ ts) ≡ []
    → (maker t.event ≢ who) × (trail_of who ts ≡ [])
none_first who t ts none =
    elim (same_maker who (maker t.event)) as (λ b. same_maker who (maker t.event) ≡ b
    → cond b (t ∷ trail_of who ts) (trail_of who ts) ≡ [] → (maker t.event ≢ who)
    × (trail_of who ts ≡ [])) [
      | true ↦ λ is none. absurd cc
      | false ↦ λ is none. (maker_differs who (maker t.event) is, none)
    ] refl none

same_rooms : (s : State) (e : Event) → (after s e).rooms ≡ s.rooms
same_rooms s e = (as_large s e).rooms

pub runs_roomed : (s : State) (i room : ℕ) (ts : List Taken) → trail_of (Some i) ts ≡ [] → Runs s ts
    → Runs (roomed s (set s.rooms i room)) ts
runs_roomed s i room [] none runs = tt
runs_roomed s i room (t ∷ ts) none runs =
    let apart = none_first (Some i) t ts none in
    let rooms = set s.rooms i room in
    let later : Runs (roomed (after s t.event) (set (after s t.event).rooms i room)) ts =
    runs_roomed (after s t.event) i room ts apart.1 runs.2 in
    let there : Runs (roomed (after s t.event) rooms) ts =
    subst (λ (rs : List ℕ). Runs (roomed (after s t.event) (set rs i room)) ts)
    (same_rooms s t.event) later in (
      can_roomed s i room t.event apart.0 ∙ runs.0,
      runs.1 ∙ sym (found_roomed s rooms t.event),
      subst (λ (u : State). Runs u ts) (sym (after_roomed s rooms t.event)) there,
    )

-- an opening with another room is the opening, with this one
pub opening_roomed : (cells : ℕ) (rooms : List ℕ) (first : List (List Field)) (i room : ℕ)
    → opening cells (set rooms i room) first ≡ roomed (opening cells rooms first) (set rooms i room)
opening_roomed cells rooms first i room =
    ap (λ (n : ℕ). record (opening cells rooms first) {
      mutators = n;
      rooms = set rooms i room;
      presences = replicate n opening_presence;
      owns = replicate n no_own;
      collector = opening_collector cells n;
    }) (length-set rooms i room)
