-- The quoted texts that are texts of documents.
-- Source: this project's own.
use Rattle.std.specs.Prelude.{ℕ, List, length, nat_le, if◌then◌else◌, Option, Some, None}
use Rattle.quoted_text.specs.Quoted.{unquoted_of}

-- a text of at most 4,096 bytes
abbrev pub short_of : Option (List ℕ) → Option (List ℕ)
short_of None = None
short_of (Some text) = if nat_le (length text) 4096 then Some text else None

-- the text whose quoted text the bytes are
abbrev pub quoted_text_in : List ℕ → Option (List ℕ)
quoted_text_in bytes = short_of (unquoted_of bytes)
