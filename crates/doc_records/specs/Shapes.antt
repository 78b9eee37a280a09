-- Shapes of terms, as far as a reader of texts rests on them, and what it tells of them.
-- Source: this project's.
use Rattle.std.specs.Prelude.{ℕ, zero, suc, ◌+◌, List, ◌∷◌}
use Rattle.cell_words.specs.Term.{Term, null, num, five, part, number}
use Rattle.cell_words.specs.declared.fields.Field.TheVariants as field
use Rattle.trails.specs.Asks.{Ask, gave}

abbrev pub IsNum : Term → Type 0
IsNum null = ⊥
IsNum (num n) = Unit {0}
IsNum (five a b c d e) = ⊥

-- cells with four numbers each, one after another
abbrev pub IsChain : Term → Type 0
IsChain null = Unit {0}
IsChain (num n) = ⊥
IsChain (five a b c d e) = IsNum a × IsNum b × IsNum c × IsNum d × IsChain e

-- how many cells there are
abbrev pub cells_of : Term → ℕ
cells_of null = 0
cells_of (num n) = 0
cells_of (five a b c d e) = cells_of e + 1

-- a read that gave this word is asked for where a byte is in it
abbrev pub ask_word : ℕ → List Ask → List Ask
ask_word zero rest = rest
ask_word (suc n) rest = gave (field.Num (suc n)) ∷ rest

-- the words of one cell, and of all of a chain
abbrev pub ask_cell : Term → List Ask → List Ask
ask_cell t rest =
    ask_word (number (part 1 t)) (ask_word (number (part 2 t)) (ask_word (number (part 3 t)) rest))

abbrev pub ask_text : Term → List Ask → List Ask
ask_text null rest = rest
ask_text (num n) rest = rest
ask_text (five a b c d e) rest = ask_cell (five a b c d e) (ask_text e rest)

-- the names of entries, in their order
abbrev pub ask_names : Term → List Ask → List Ask
ask_names null rest = rest
ask_names (num n) rest = rest
ask_names (five a b c d e) rest = ask_names c (ask_text a (ask_names d rest))
