-- The walk back along links: a step, and how far it came.
-- Source: this project's.
use Rattle.std.specs.Prelude.{ℕ, ◌≡◌, ◌≢◌, ◌<◌, ◌≤◌, ◌+◌, ◌++◌, true, List, [], ◌∷◌, length}
use Rattle.cell_words.specs.Term.{Term}
use Rattle.cell_words.specs.declared.fields.Field.TheVariants as field
use Rattle.core_machine.specs.declared.events.Event.TheVariants as event
use Rattle.core_machine.specs.declared.events.Found.{Found}
use Rattle.core_machine.specs.declared.events.Found.TheVariants as finds
use Rattle.heap_rule.specs.declared.known.Learned.{Learned}
use Rattle.heap_rule.specs.declared.view.View.{View}
use Rattle.heap_rule.specs.Asks.{known_of, target}
use Rattle.heap_rule.specs.Boxes.{Map}
use Rattle.heap_rule.specs.Steps.{Picks}
use Rattle.mutator_seat.specs.Bound.{Bound, held_cells}
use Rattle.version_rule.specs.Knowing.{KnowsVersion, number_told}
use Rattle.version_rule.specs.Pass.{Pass, cutting}
use Rattle.version_rule.specs.Versions.{is_fixed}
use Rattle.version_rule.specs.declared.held.HeldVersion.{HeldVersion}
use Rattle.held_places.specs.Calls.{Goes, IsCoherent}
use Rattle.version_store.specs.Calls.{Holds, StaysKnown, StillKnown}
use Rattle.held_places.specs.Calls.{known_fresh}
use Rattle.version_store.specs.Held.{IsHeld}

-- The pass that is picked at a read of a link is allowed by the rule, and does not change where the
-- link is there.
pub record PicksLink (holds : Map → List Pass → Type 0) (next : Learned → Found → Pass → Pass)
    : Type 0 where
  pub picks : (v : View Pass) (place number : ℕ) (root : Term)
      → KnowsVersion v place number root → 1 ≤ number
      → Picks holds is_fixed next v (event.Read v.number place 2)
  pub stays : (tells : Learned) (cell : ℕ) (pass : Pass)
      → next tells (finds.Field (field.Cell cell)) pass ≡ pass

-- the link is the version before, which is held at the next place
pub record FollowsLink (old new : Bound Pass) (v before : HeldVersion) : Type 0 where
  pub cell : ℕ
  pub goes : Goes [] old new
  pub holds : Holds (cell ∷ []) old new
  pub place_is : before.place ≡ length old.seat.me.own.held
  pub number_is : before.number + 1 ≡ v.number
  pub held : IsHeld new before
  pub pass : new.seat.me.pass ≡ old.seat.me.pass
  pub claims : new.seat.me.own.claims ≡ old.seat.me.own.claims
  pub coherent : IsCoherent old.seat.me
  pub many : length new.seat.me.known ≡ length new.seat.me.own.held

-- the link is null
pub record EndsThere (next : Learned → Found → Pass → Pass) (old new : Bound Pass)
    (v : HeldVersion) : Type 0 where
  pub goes : Goes [] old new
  pub holds : Holds [] old new
  pub tells : Learned
  pub told : number_told tells.here ≡ v.number
  pub pass : new.seat.me.pass ≡ next tells (finds.Field field.Null) old.seat.me.pass
  pub claims : new.seat.me.own.claims ≡ old.seat.me.own.claims

-- so many steps back, each along a link
pub record Walked (old new : Bound Pass) (v at : HeldVersion) (steps : ℕ) : Type 0 where
  pub goes : Goes [] old new
  pub cells : List ℕ
  pub held : held_cells new ≡ held_cells old ++ cells
  pub few : length cells ≤ steps
  pub known : StaysKnown (length old.seat.me.own.held) old new
  pub at_is : IsHeld new at
  pub number_is : at.number + steps ≡ v.number
  pub pass : new.seat.me.pass ≡ old.seat.me.pass
  pub claims : new.seat.me.own.claims ≡ old.seat.me.own.claims
  pub many : length new.seat.me.known ≡ length new.seat.me.own.held
  pub keeps_some : 1 ≤ old.seat.me.pass.keep
  pub keeps_few : old.seat.me.pass.keep ≤ 100

-- before so many steps a link was null
pub record Stopped (next : Learned → Found → Pass → Pass) (old new : Bound Pass)
    (v : HeldVersion) (steps : ℕ) : Type 0 where
  pub goes : Goes [] old new
  pub cells : List ℕ
  pub held : held_cells new ≡ held_cells old ++ cells
  pub few : length cells ≤ steps
  pub known : StaysKnown (length old.seat.me.own.held) old new
  pub number : ℕ
  pub within : number ≤ v.number
  pub near : v.number < number + steps
  pub tells : Learned
  pub told : number_told tells.here ≡ number
  pub pass : new.seat.me.pass ≡ next tells (finds.Field field.Null) old.seat.me.pass
  pub claims : new.seat.me.own.claims ≡ old.seat.me.own.claims
  pub keeps_few : old.seat.me.pass.keep ≤ 100

-- The link of the version is null now: this mutator stored or exchanged it, or another did first.
-- What is known of a place stays, except that of a fresh cell that is the version's.
pub record LinkTaken (old new : Bound Pass) (v : HeldVersion) : Type 0 where
  pub goes : Goes [] old new
  pub held : held_cells new ≡ held_cells old ++ []
  pub known : (place : ℕ) → place < length old.seat.me.own.held
      → (known_fresh (known_of old.seat.me place) ≡ true
      → target old.seat.me place ≢ target old.seat.me v.place)
      → StillKnown (known_of old.seat.me place) (known_of new.seat.me place)
  pub pass : new.seat.me.pass ≡ cutting v.number old.seat.me.pass
  pub claims : new.seat.me.own.claims ≡ old.seat.me.own.claims

-- the link of the version is null now, whoever made it so
pub record LinkIsNull (old new : Bound Pass) (v : HeldVersion) : Type 0 where
  pub goes : Goes [] old new
  pub cells : List ℕ
  pub held : held_cells new ≡ held_cells old ++ cells
  pub known : StaysKnown (length old.seat.me.own.held) old new
  pub pass : new.seat.me.pass ≡ cutting v.number old.seat.me.pass
  pub claims : new.seat.me.own.claims ≡ old.seat.me.own.claims

-- the link of a version on the way back is null, at the oldest one that stays or before it
pub record CutsOff (old new : Bound Pass) (v : HeldVersion) (keep : ℕ) : Type 0 where
  pub goes : Goes [] old new
  pub cells : List ℕ
  pub held : held_cells new ≡ held_cells old ++ cells
  pub known : StaysKnown (length old.seat.me.own.held) old new
  pub cut : ℕ
  pub within : cut ≤ v.number
  pub due : v.number + 1 ≤ cut + keep
  pub pass : new.seat.me.pass ≡ cutting cut old.seat.me.pass
  pub claims : new.seat.me.own.claims ≡ old.seat.me.own.claims
