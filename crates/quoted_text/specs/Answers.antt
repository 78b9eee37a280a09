-- How what the reader answers stands to the definition.
-- Source: this project's own.
use Rattle.std.specs.Prelude.{◌≡◌, ℕ, List, Option, Some, None, Vec}
use Rattle.std.specs.declared.alloc.Global.{Global}

-- the answer is this text, if there is one
abbrev pub IsRead : Option (Vec ℕ Global) → Option (List ℕ) → Type 0
IsRead None text = text ≡ None
IsRead (Some bytes) text = text ≡ Some bytes.items
