-- The fields of the record and of the box that are made.
use Rattle.std.proofs.Common.{◌≡◌, ◌<◌, ℕ, zero, suc, true, List, [], ◌∷◌, arith}
use Rattle.cell_making.specs.Makes.{MayName, MayTerm, value_at}
use Rattle.heap_rule.specs.Asks.{known_of}
use Rattle.heap_rule.specs.declared.known.Known.{Known}
use Rattle.heap_rule.specs.declared.view.View.{View}
use Rattle.held_places.specs.Calls.{settled}
use Rattle.mutator_events.specs.declared.values.Value.{Value}
use Rattle.mutator_events.specs.declared.values.Value.TheVariants as values

pub record_may : (known : List Known) (i : ℕ) → i < 5 → MayTerm known (value_at (values.Num 5
    ∷ values.Null ∷ values.Null ∷ values.Null ∷ values.Null ∷ []) i)
record_may known zero lt = omega arith
record_may known (suc zero) lt = tt
record_may known (suc (suc zero)) lt = tt
record_may known (suc (suc (suc zero))) lt = tt
record_may known (suc (suc (suc (suc zero)))) lt = tt
record_may known (suc (suc (suc (suc (suc i))))) lt = absurd (omega (arith, lt))

pub box_may : {P : Type 0} (v : View P) (end place : ℕ) → place < end
    → settled (known_of v place) ≡ true → (i : ℕ) → i < 5
    → MayName v end (value_at (values.Num 7 ∷ values.Held place ∷ values.Null ∷ values.Null
    ∷ values.Null ∷ []) i)
box_may v end place there is zero lt = omega arith
box_may v end place there is (suc zero) lt = (there, is)
box_may v end place there is (suc (suc zero)) lt = tt
box_may v end place there is (suc (suc (suc zero))) lt = tt
box_may v end place there is (suc (suc (suc (suc zero)))) lt = tt
box_may v end place there is (suc (suc (suc (suc (suc i))))) lt = absurd (omega (arith, lt))
