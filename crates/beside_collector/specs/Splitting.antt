-- The seats of mutators, split off the collector's one after the other.
-- Source: this project's.
use Rattle.std.specs.Prelude.{ℕ, ◌≡◌, ◌≤◌, ◌<◌, List, length}
use mathlib.Core.Option.{some}
use lib.ListN.{get_elem?}
use Rattle.beside_collector.specs.Serving.{IsStill}
use Rattle.heap_rule.specs.declared.view.Place.{Place}
use Rattle.heap_rule.specs.declared.view.Place.TheVariants as places
use Rattle.heap_table.specs.Seats.{SeatView}

module _ {P : Type 0} where
  -- the mutators from one place on are not split off yet
  abbrev pub AreUnsplit : ℕ → ℕ → List (Place P) → Type 0
  AreUnsplit from mutators at =
      (i : ℕ) → from ≤ i → i < mutators → get_elem? at i ≡ some places.Unsplit

  -- The first mutators are split off, and so many are left.
  pub record HasSplit (workers mutators : ℕ) (old new : SeatView P) : Type 0 where
    pub still : IsStill old new
    pub many : length new.me.places ≡ mutators
    pub unsplit : AreUnsplit workers mutators new.me.places
