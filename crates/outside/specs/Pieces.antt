-- What is read of a file and written to a sink, in one call or in several.
--
-- The bytes that a name holds, that are left of an open file or that a sink has taken are `None`
-- where the object does not tell them: then nothing is claimed of them.
-- Source: this project's own.
use Rattle.std.specs.Prelude.{◌≡◌, ℕ, ◌+◌, ◌<◌, ◌≤◌, ◌==◌, Bool, List, [], ◌++◌, length, take, drop}
use Rattle.std.specs.Prelude.{position, Option, None, Some, Result, IfOk, ⊤}
use Rattle.std.specs.Io.KnownBytes.{Appends, Consumes}

-- a call took at most the whole piece, and at least a byte of a piece that is not empty
abbrev pub TakesSome : {E : Type 0} → Result ℕ E → List ℕ → Type 0
TakesSome r piece = IfOk r (λ n. (n ≤ length piece) × (0 < length piece → 0 < n))

-- the bytes are the first ones, up to a limit, of what is told
abbrev pub IsFrontOf : Option (List ℕ) → ℕ → List ℕ → Type 0
IsFrontOf None limit bytes = ⊤
IsFrontOf (Some all) limit bytes = bytes ≡ take limit all

-- a read added so many bytes, which are what the known ones lost at their front
abbrev pub AddsRead : Option (List ℕ) → Option (List ℕ) → List ℕ → List ℕ → ℕ → Type 0
AddsRead left after old new count =
    (added : List ℕ) × (new ≡ old ++ added) × (length added ≡ count) × Consumes left after added

-- known bytes grow by a front of the given ones that is not all of them
abbrev pub AppendsPart : Option (List ℕ) → Option (List ℕ) → List ℕ → Type 0
AppendsPart old new bytes = (n : ℕ) × (n < length bytes) × Appends old new (take n bytes)

abbrev pub is_line_feed : ℕ → Bool
is_line_feed byte = byte == 10

-- a text cut after the byte at this place
abbrev pub cut_behind : Option ℕ → List ℕ → List ℕ × List ℕ
cut_behind (Some at) text = (take (at + 1) text, drop (at + 1) text)
cut_behind None text = (text, [])

-- the first line of a text, with its line feed, and what stands after it
abbrev pub first_line : List ℕ → List ℕ × List ℕ
first_line text = cut_behind (position is_line_feed text) text
