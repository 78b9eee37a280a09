-- The workers that run alongside the collector, by their places in a list.
-- Source: this project's.
use Rattle.std.specs.Prelude.{ℕ, ◌+◌, List, [], ◌∷◌}

-- this holds of each and its place, where the first one has this place
abbrev pub AllFrom : {W : Type 0} → (ℕ → W → Type 0) → ℕ → List W → Type 0
AllFrom holds place [] = Unit {0}
AllFrom holds place (one ∷ others) = holds place one × AllFrom holds (place + 1) others
