-- Names, texts and paths as bytes: which bytes are one, and which one they are.
-- A name has 1 to 64 letters, digits, `-` and `_`. A text has at most 4,096 bytes, each a character
-- from the space to the tilde, a tab or a line feed. A path is 1 to 8 names joined by `/`.
-- Source: this project's.
use Rattle.std.specs.Prelude.{ℕ, Bool, List, length, Option, Some, None, ◌&&◌, ◌||◌, ◌==◌, nat_le}
use Rattle.std.specs.Prelude.{if◌then◌else◌}
use Rattle.std.specs.List.{list_all, slice_split}

-- 0 to 9, A to Z, a to z, `-` and `_`
abbrev pub is_name_byte : ℕ → Bool
is_name_byte b =
    (nat_le 48 b && nat_le b 57) || (nat_le 65 b && nat_le b 90) ||
    (nat_le 97 b && nat_le b 122) || (b == 45) || (b == 95)

abbrev pub is_name : List ℕ → Bool
is_name bytes = nat_le 1 (length bytes) && nat_le (length bytes) 64 && list_all is_name_byte bytes

abbrev pub name_of : List ℕ → Option (List ℕ)
name_of bytes = if is_name bytes then Some bytes else None

-- the space to the tilde, the tab and the line feed
abbrev pub is_text_byte : ℕ → Bool
is_text_byte b = (nat_le 32 b && nat_le b 126) || (b == 9) || (b == 10)

abbrev pub is_text : List ℕ → Bool
is_text bytes = nat_le (length bytes) 4096 && list_all is_text_byte bytes

abbrev pub text_of : List ℕ → Option (List ℕ)
text_of bytes = if is_text bytes then Some bytes else None

abbrev pub are_names : List (List ℕ) → Bool
are_names names = list_all is_name names

abbrev pub is_path : List (List ℕ) → Bool
is_path names = nat_le 1 (length names) && nat_le (length names) 8 && are_names names

-- the pieces between the slashes
abbrev pub pieces : List ℕ → List (List ℕ)
pieces bytes = slice_split (λ b. b == 47) bytes

-- the names as a path, if they are one
abbrev pub path_with : List (List ℕ) → Option (List (List ℕ))
path_with names = if is_path names then Some names else None

abbrev pub path_of : List ℕ → Option (List (List ℕ))
path_of bytes = path_with (pieces bytes)
