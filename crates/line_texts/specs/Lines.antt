-- The lines of a text. Each ends with a line feed, which the last may lack.
-- Source: this project's own.
use Rattle.std.specs.Prelude.{ℕ, Bool, true, false, List, [], ◌∷◌, Option, Some, None, ◌==◌}
use Rattle.std.specs.Borrow.{Bor}
use Rattle.std.specs.List.{slice_split}

-- the parts between the line feeds
abbrev pub lines_of : List ℕ → List (List ℕ)
lines_of bytes = slice_split (λ byte. byte == 10) bytes

-- the lines that are left, none where no line feed ended the one before
abbrev pub lines_left : Option (Bor (List ℕ)) → List (List ℕ)
lines_left None = []
lines_left (Some rest) = lines_of rest.now

-- a line feed ends the line where others are after it, of which the last may be empty
abbrev pub has_feed : List (List ℕ) → Bool
has_feed [] = false
has_feed (line ∷ lines) = true

-- no byte is left
abbrev pub is_end : List (List ℕ) → Bool
is_end [] = true
is_end ([] ∷ []) = true
is_end ([] ∷ line ∷ lines) = false
is_end ((byte ∷ bytes) ∷ lines) = false

-- the bytes end where the line would begin
abbrev pub is_missing : Bool → List ℕ → Bool
is_missing true line = false
is_missing false [] = true
is_missing false (byte ∷ bytes) = false
