-- What a thread knows of its mutator between two calls. No rule is in it.
-- Source: this project's.
use Rattle.std.specs.Prelude.{ℕ, ◌≡◌, ◌≢◌, ◌<◌, ◌≤◌, true, length}
use Rattle.cell_making.specs.Makes.{MayName}
use Rattle.cell_making.specs.Resting.{Loose}
use Rattle.heap_rule.specs.Asks.{is_sealed, known_of, target}
use Rattle.heap_rule.specs.declared.keeping.NoRule.{NoRule}
use Rattle.heap_rule.specs.declared.view.View.{View}
use Rattle.held_places.specs.Calls.{settled}
use Rattle.mutator_events.specs.declared.values.Value.{Value}
use Rattle.mutator_events.specs.declared.values.Value.TheVariants as values
use Rattle.mutator_seat.specs.Bound.{Bound}
use Rattle.mutator_seat.specs.Writes.{IsNamed}

-- a cell that a read found is held, and known to be sealed unless it is the anchor
abbrev pub IsFound : View NoRule → Value → Type 0
IsFound v values.Null = Unit {0}
IsFound v (values.Num n) = Unit {0}
IsFound v (values.Held place) = (place < length v.own.held)
    × (target v place ≢ 0 → settled (known_of v place) ≡ true)

-- what the read found is held in addition to the anchor, if it is a cell
pub record HoldsFound (found : Value) (m : Bound NoRule) : Type 0 where
  pub loose : Loose 8 m
  pub few : length m.seat.me.own.held ≤ 2
  pub found_is : IsFound m.seat.me found

-- and a new node may name it
pub record HoldsNewest (newest : Value) (m : Bound NoRule) : Type 0 where
  pub loose : Loose 8 m
  pub few : length m.seat.me.own.held ≤ 2
  pub may : MayName m.seat.me (length m.seat.me.own.held) newest

-- and a record that was made
pub record HoldsBoth (newest : Value) (made : ℕ) (m : Bound NoRule) : Type 0 where
  pub loose : Loose 8 m
  pub few : length m.seat.me.own.held ≤ 3
  pub may : MayName m.seat.me (length m.seat.me.own.held) newest
  pub there : made < length m.seat.me.own.held
  pub sealed : settled (known_of m.seat.me made) ≡ true

-- and a node that was made, which no cell names yet
pub record HoldsNode (newest : Value) (node : ℕ) (m : Bound NoRule) : Type 0 where
  pub loose : Loose 8 m
  pub named : IsNamed m.seat.me.own.held newest
  pub there : node < length m.seat.me.own.held
  pub sealed : is_sealed (known_of m.seat.me node) ≡ true
