-- Quoted texts: which bytes are one, and of which text.
--
-- A text is bytes from the space to the tilde, tabs and line feeds, as in doc_tree specs/Words. Its
-- quoted text begins and ends with a quote. Between them a quote and a backslash stand after a
-- backslash, a tab is `\t`, a line feed is `\n`, and each other byte stands for itself.
-- Source: this project's own.
use Rattle.std.specs.Prelude.{ℕ, Bool, not, ◌&&◌, ◌==◌, nat_le, List, [], ◌∷◌, ◌++◌, Option}
use Rattle.std.specs.Prelude.{Some, None, if◌then◌else◌}
use Rattle.std.specs.List.{flat_map}

-- how a byte of a text is written
abbrev pub escaped : ℕ → List ℕ
escaped b =
    if b == 34 then 92 ∷ 34 ∷ []
    else if b == 92 then 92 ∷ 92 ∷ []
    else if b == 9 then 92 ∷ 116 ∷ []
    else if b == 10 then 92 ∷ 110 ∷ []
    else b ∷ []

-- the quoted text
abbrev pub quoted_of : List ℕ → List ℕ
quoted_of text = 34 ∷ flat_map escaped text ++ 34 ∷ []

-- the byte that is written so after a backslash
abbrev pub unescaped : ℕ → Option ℕ
unescaped c =
    if c == 34 then Some 34
    else if c == 92 then Some 92
    else if c == 116 then Some 9
    else if c == 110 then Some 10
    else None

-- it stands for itself
abbrev pub is_raw : ℕ → Bool
is_raw b = nat_le 32 b && nat_le b 126 && not (b == 34) && not (b == 92)

-- a text with one more byte in front, if both are there
abbrev pub with_byte : Option ℕ → Option (List ℕ) → Option (List ℕ)
with_byte None text = None
with_byte (Some b) None = None
with_byte (Some b) (Some text) = Some (b ∷ text)

-- the text of no more bytes, where the quote is all that is left
abbrev pub no_more_of : List ℕ → Option (List ℕ)
no_more_of [] = None
no_more_of (b ∷ []) = if b == 34 then Some [] else None
no_more_of (b ∷ c ∷ rest) = None

-- the text up to the quote that ends the bytes
abbrev pub inside_of : List ℕ → Option (List ℕ)
inside_of [] = None
inside_of (b ∷ []) = no_more_of (b ∷ [])
inside_of (b ∷ c ∷ rest) =
    if b == 92 then with_byte (unescaped c) (inside_of rest)
    else if is_raw b then with_byte (Some b) (inside_of (c ∷ rest))
    else None

-- what is after a quote
abbrev pub behind_of : List ℕ → Option (List ℕ)
behind_of [] = None
behind_of (b ∷ rest) = if b == 34 then Some rest else None

-- the text after a first quote
abbrev pub inside_from : Option (List ℕ) → Option (List ℕ)
inside_from None = None
inside_from (Some inside) = inside_of inside

-- the text whose quoted text the bytes are
abbrev pub unquoted_of : List ℕ → Option (List ℕ)
unquoted_of bytes = inside_from (behind_of bytes)
