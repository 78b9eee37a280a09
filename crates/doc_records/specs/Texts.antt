-- Texts and names as records: a chain of cells with 21 bytes each, and fewer in the last alone.
-- That a term spells a text is a relation that goes down the term: it needs neither fuel nor
-- division.
-- Source: this project's layout of a text.
use Rattle.std.specs.Prelude.{◌≡◌, ℕ, zero, suc, ◌-◌, ◌<◌, List, [], ◌∷◌, ◌++◌, length, min}
use Rattle.std.specs.Prelude.{drop, map, true}
use Rattle.cell_words.specs.Term.{Term, null, num, five, number}
use Rattle.cell_words.specs.declared.fields.Field.TheVariants as field
use Rattle.trails.specs.Asks.{Ask, gave}
use Rattle.doc_tree.specs.Words.{is_text, is_name}
use Rattle.doc_records.specs.Words.{word_of, bytes_of}

-- the first four fields of a cell: how many bytes there are from this cell on, of which there is
-- one, and three words of seven bytes each
pub record IsTextCell (bytes : List ℕ) (a b c d : Term) : Type 0 where
  pub some : 0 < length bytes
  pub count : a ≡ num (length bytes)
  pub first : b ≡ num (word_of 7 bytes)
  pub second : c ≡ num (word_of 7 (drop 7 bytes))
  pub third : d ≡ num (word_of 7 (drop 14 bytes))

-- the term is that of these bytes: null if there are none, otherwise a cell and what is left after
-- it
abbrev pub SpellsText : Term → List ℕ → Type 0
SpellsText null bytes = bytes ≡ []
SpellsText (num n) bytes = ⊥
SpellsText (five a b c d e) bytes = IsTextCell bytes a b c d × SpellsText e (drop 21 bytes)

-- the bytes in a cell, by the number that there are from it on
abbrev pub bytes_here : (count first second third : ℕ) → List ℕ
bytes_here count first second third =
    bytes_of (min 7 count) first
    ++ (bytes_of (min 7 (count - 7)) second ++ bytes_of (min 7 (count - 14)) third)

-- the bytes that a term spells, if it spells any
abbrev pub text_of : Term → List ℕ
text_of null = []
text_of (num n) = []
text_of (five a b c d e) =
    bytes_here (number a) (number b) (number c) (number d) ++ text_of e

-- the term is that of a text, and of a name
pub record IsText (t : Term) : Type 0 where
  pub spells : SpellsText t (text_of t)
  pub text : is_text (text_of t) ≡ true

pub record IsName (t : Term) : Type 0 where
  pub spells : SpellsText t (text_of t)
  pub name : is_name (text_of t) ≡ true

-- the words of these bytes, where so many of them belong to a word before
abbrev pub words_past : ℕ → List ℕ → List ℕ
words_past n [] = []
words_past zero (b ∷ bytes) = word_of 7 (b ∷ bytes) ∷ words_past 6 bytes
words_past (suc n) (b ∷ bytes) = words_past n bytes

-- the words that hold a byte
abbrev pub words_of : List ℕ → List ℕ
words_of bytes = words_past 0 bytes

-- reads that gave these words, in order
abbrev pub text_asks : List ℕ → List Ask
text_asks bytes = map (λ word. gave (field.Num word)) (words_of bytes)

-- and of one name after another
abbrev pub name_asks : List (List ℕ) → List Ask
name_asks [] = []
name_asks (name ∷ names) = text_asks name ++ name_asks names
