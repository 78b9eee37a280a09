-- Seven bytes of a text as one number, the first byte lowest.
-- Source: this project's layout of a text.
use Rattle.std.specs.Int.{w64, swap_bytes}
use Rattle.std.specs.Prelude.{ℕ, zero, suc, ◌+◌, ◌*◌, ◌/◌, ◌%◌, List, [], ◌∷◌}

-- the first so many bytes as a number; bytes past the end are 0
abbrev pub word_of : ℕ → List ℕ → ℕ
word_of zero bytes = 0
word_of (suc n) [] = 0
word_of (suc n) (b ∷ bytes) = b + 256 * word_of n bytes

-- the first so many bytes of a word
abbrev pub bytes_of : ℕ → ℕ → List ℕ
bytes_of zero word = []
bytes_of (suc n) word = (word % 256) ∷ bytes_of n (word / 256)

-- the head of a name: its first seven bytes as one number, the first byte highest. So heads have
-- the order of what names begin with
abbrev pub head_of : List ℕ → ℕ
head_of bytes = swap_bytes w64 (word_of 7 bytes)
