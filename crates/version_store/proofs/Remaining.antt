-- A version that is known is still known, and one that is held is still held.
use Rattle.std.proofs.Common.{◌≡◌, ◌<◌, ◌++◌, ℕ, List, refl, subst, arith}
use Rattle.cell_words.specs.Term.{Term, num}
use Rattle.heap_rule.specs.declared.known.Known.{Known}
use Rattle.heap_rule.specs.Asks.{known_of}
use Rattle.held_places.proofs.Going.{many_held}
use Rattle.mutator_seat.specs.Bound.{Bound, held_cells}
use Rattle.version_rule.specs.Knowing.{IsVersionKnown, KnowsVersion}
use Rattle.version_rule.specs.Pass.{Pass}
use Rattle.version_store.specs.Calls.{StaysKnown, StillKnown}

pub version_known : (j k : Known) (number : ℕ) (root : Term) → StillKnown j k
    → IsVersionKnown j number root → IsVersionKnown k number root
version_known j k number root still is =
    let boxed = subst (λ (x : Known). StillKnown x k) is.is still in
    record {
      told = boxed.0;
      is = boxed.1.0;
      number_is = boxed.1.1 0 (num number) (omega arith) refl is.number_is;
      root_is = boxed.1.1 1 root (omega arith) refl is.root_is;
    }

-- a version that is held is still held
pub version_still : (n : ℕ) (cells : List ℕ) (a b : Bound Pass) → StaysKnown n a b
    → held_cells b ≡ held_cells a ++ cells → (place number : ℕ) (root : Term) → place < n
    → KnowsVersion a.seat.me place number root → KnowsVersion b.seat.me place number root
version_still n cells a b stays held place number root lt knows = record {
  there =
      let many = many_held a b cells held in
      let there = knows.there in omega (arith, many, there);
  known = version_known (known_of a.seat.me place) (known_of b.seat.me place) number root
      (stays place lt) knows.known;
}
