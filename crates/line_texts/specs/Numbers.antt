-- Decimal numbers of a few digits: some may begin with zeros, others have one way to be written.
-- Source: this project's own.
use Rattle.std.specs.Prelude.{ℕ, Bool, true, not, ◌&&◌, ◌==◌, List, [], ◌∷◌, length, nat_le}
use Rattle.std.specs.Prelude.{if◌then◌else◌, Option, Some, None}
use Rattle.std.specs.Char.{is_ascii_digit}
use Rattle.std.specs.List.{list_all}
use Rattle.std.specs.Str.Parse.{digits_value}

-- 1 digit or more, and at most so many
abbrev pub are_digits : ℕ → List ℕ → Bool
are_digits most word =
    nat_le 1 (length word) && nat_le (length word) most && list_all is_ascii_digit word

-- the number that a word is
abbrev pub digits_of : ℕ → List ℕ → Option ℕ
digits_of most word = if are_digits most word then Some (digits_value 10 word) else None

-- a first zero is the only digit
abbrev pub is_shortest : List ℕ → Bool
is_shortest [] = true
is_shortest (digit ∷ []) = true
is_shortest (digit ∷ next ∷ digits) = not (digit == 48)

-- the number that a word is without zeros before it
abbrev pub decimal_of : ℕ → List ℕ → Option ℕ
decimal_of most word = if is_shortest word then digits_of most word else None
