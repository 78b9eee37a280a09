-- The rule of a client that asks for nothing.
-- Source: this project's.
use Rattle.std.specs.Prelude.{ℕ, Bool, false, List}
use Rattle.heap_rule.specs.Boxes.{Map, Smaller}

abbrev pub anything_holds : {P : Type 0} → Map → List P → Type 0
anything_holds map passes = Unit {0}

abbrev pub no_field_is_fixed : ℕ → Bool
no_field_is_fixed f = false

pub nothing_to_keep : {P : Type 0} (old new : Map) (passes : List P) → Smaller old new
    → anything_holds old passes
    → anything_holds new passes
nothing_to_keep old new passes smaller kept = tt
