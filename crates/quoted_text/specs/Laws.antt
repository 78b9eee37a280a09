-- Writing and reading undo each other.
-- Source: this project's own.
use Rattle.std.specs.Prelude.{◌≡◌, ℕ, List, Some, IsTrue}
use Rattle.std.specs.List.{list_all}
use Rattle.quoted_text.specs.Quoted.{quoted_of, unquoted_of}
use Rattle.doc_tree.specs.Words.{is_text_byte}

-- a text that was written is read back
abbrev pub IsReadBack : Type 0
IsReadBack =
    (text : List ℕ) → IsTrue (list_all is_text_byte text)
    → unquoted_of (quoted_of text) ≡ Some text

-- what is read as a text is its quoted text
abbrev pub IsAsWritten : Type 0
IsAsWritten =
    (bytes text : List ℕ) → unquoted_of bytes ≡ Some text → bytes ≡ quoted_of text

-- and the text has bytes of a text alone
abbrev pub HasTextBytes : Type 0
HasTextBytes =
    (bytes text : List ℕ) → unquoted_of bytes ≡ Some text
    → IsTrue (list_all is_text_byte text)
