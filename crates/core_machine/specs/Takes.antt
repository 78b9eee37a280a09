-- How the result of a call that takes one event stands to the successor.
-- Source: this project's.
use Rattle.std.specs.Prelude.{◌≡◌, Option, Some, None, Result, Ok, Err}

-- Ok says that the old state has a successor, and the new state is it. Err says that it has none,
-- and that nothing has changed.
abbrev pub Takes : {U E S : Type 0} → Result U E → S → Option S → S → Type 0
Takes (Ok done) old next new = next ≡ Some new
Takes (Err refusal) old next new = (next ≡ None) × (new ≡ old)
