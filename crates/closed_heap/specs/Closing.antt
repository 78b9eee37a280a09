-- When a mutator's seat was joined, by what the collector's seat has of it.
-- Source: this project's.
use Rattle.std.specs.Prelude.{ℕ, ◌≡◌, ◌<◌, List}
use mathlib.Core.Option.{some}
use lib.ListN.{get_elem?}
use Rattle.heap_rule.specs.declared.view.Place.{Place}
use Rattle.heap_rule.specs.declared.view.Place.TheVariants as places
use Rattle.heap_rule.specs.declared.view.Share.{Share}

-- the seat of the mutator with this index was joined
pub record IsJoined {P : Type 0} (joined : List (Place P)) (i : ℕ) : Type 0 where
  pub share : Share P
  pub share_at : get_elem? joined i ≡ some (places.Joined share)

-- so were those of the first mutators, as many as this
abbrev pub AreJoined : {P : Type 0} → ℕ → List (Place P) → Type 0
AreJoined count joined = (i : ℕ) → i < count → IsJoined joined i
