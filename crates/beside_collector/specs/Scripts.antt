-- Scripts, by the places of the workers.
-- Source: this project's.
use Rattle.std.specs.Prelude.{ℕ, zero, suc, List, [], ◌∷◌, Vec}
use Rattle.std.specs.declared.alloc.Global.{Global}

abbrev pub script_of : {A : Type 0} → List (Vec A Global) → ℕ → List A
script_of [] place = []
script_of (script ∷ scripts) zero = script.items
script_of (script ∷ scripts) (suc place) = script_of scripts place
