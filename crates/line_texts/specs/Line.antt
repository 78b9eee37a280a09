-- A line before its words are looked at. A carriage return at its end is no part of it, and an
-- empty line, or one that begins with `#`, does not count.
-- Source: this project's own.
use Rattle.std.specs.Prelude.{ℕ, Bool, false, not, ◌&&◌, List, [], ◌∷◌, nat_le, ◌==◌}

-- the space to the tilde
abbrev pub is_plain_byte : ℕ → Bool
is_plain_byte byte = nat_le 32 byte && nat_le byte 126

-- the line is neither empty nor a comment
abbrev pub counts : List ℕ → Bool
counts [] = false
counts (byte ∷ bytes) = not (byte == 35)
