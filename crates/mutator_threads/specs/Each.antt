-- Workers before and after a call for each of them, by their places in a list.
-- Source: this project's.
use Rattle.std.specs.Prelude.{ℕ, ◌+◌, List, [], ◌∷◌}

-- this holds of each place, of the worker there and of what became of it, where the first one has
-- this place
abbrev pub EachFrom : {W : Type 0} → (ℕ → W → W → Type 0) → ℕ → List W → List W → Type 0
EachFrom holds place [] [] = Unit {0}
EachFrom holds place [] (new ∷ news) = ⊥
EachFrom holds place (old ∷ olds) [] = ⊥
EachFrom holds place (old ∷ olds) (new ∷ news) =
    holds place old new × EachFrom holds (place + 1) olds news
