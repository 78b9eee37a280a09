-- How a line falls into words.
--
-- One space ends a word. What is left of a line after a word begins with that space, or is empty
-- where the line ended with the word.
-- Source: this project's own.
use Rattle.std.specs.Prelude.{ℕ, Bool, List, take, drop, ◌==◌}
use Rattle.std.specs.List.{position_or_len}

abbrev pub is_space : ℕ → Bool
is_space byte = byte == 32

-- the bytes up to the first space, or all where there is none
abbrev pub word_of : List ℕ → List ℕ
word_of bytes = take (position_or_len is_space bytes) bytes

-- the bytes from the first space on
abbrev pub rest_of : List ℕ → List ℕ
rest_of bytes = drop (position_or_len is_space bytes) bytes

-- the next word of a rest, which is empty where there is none
abbrev pub next_word_of : List ℕ → List ℕ
next_word_of rest = word_of (drop 1 rest)

-- what is left after the next word
abbrev pub next_rest_of : List ℕ → List ℕ
next_rest_of rest = rest_of (drop 1 rest)
