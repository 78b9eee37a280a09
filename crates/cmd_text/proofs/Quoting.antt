-- Which bytes are those of a text, and which quoted texts are short enough.
use Rattle.std.proofs.Common.{◌≡◌, ℕ, Bool, true, false, List, [], ◌∷◌, length, Some}
use Rattle.std.proofs.Common.{None, Result, refl, ap, sym, subst, ◌∙◌, arith}
use Rattle.std.specs.Prelude.{◌&&◌, nat_le, if◌then◌else◌, ok_or}
use Rattle.std.specs.List.{list_all}
use Rattle.std.proofs.lemmas.Bool.{and_from, and_parts, cond-true}
use Rattle.std.proofs.lemmas.Bool.Decides.{nat_tests}
use Rattle.doc_tree.specs.Words.{is_text_byte, text_of}
use Rattle.line_texts.specs.Line.{is_plain_byte}
use Rattle.quoted_text.specs.Quoted.{unquoted_of}
use Rattle.quoted_text.proofs.Laws.{from_quote}
use Rattle.cmd_text.specs.Answers.{Gives}
use Rattle.cmd_text.specs.Line.{and_then, short_text}
use Rattle.cmd_text.specs.Texts.{quoted_text_in, short_of}
use Rattle.cmd_text.specs.declared.fault.LineError.{LineError}
use Rattle.cmd_text.specs.declared.fault.ScriptKind.TheVariants.{NoQuote}

plain_byte : (b : ℕ) → is_plain_byte b ≡ true → is_text_byte b ≡ true
plain_byte b plain = grind (arith, nat_tests)

-- plain bytes are those of a text
pub plain_text : (bytes : List ℕ) → list_all is_plain_byte bytes ≡ true
    → list_all is_text_byte bytes ≡ true
plain_text [] all = refl
plain_text (b ∷ bytes) all =
    let parts = and_parts (is_plain_byte b) (list_all is_plain_byte bytes) all in
    and_from (is_text_byte b) (list_all is_text_byte bytes) (plain_byte b parts.0)
    (plain_text bytes parts.1)

-- and so are those between quotes
pub unquoted_text : (bytes text : List ℕ) → unquoted_of bytes ≡ Some text
    → list_all is_text_byte text ≡ true
unquoted_text bytes text is = (from_quote bytes text is).1

short_as : (short plain : Bool) (text : List ℕ) → plain ≡ true
    → (if short && plain then Some text else None) ≡ (if short then Some text else None)
short_as true plain text is = cond-true plain (Some text) None is
short_as false plain text is = refl

-- the text between quotes, if it is not too long
pub quoted_short : (bytes text : List ℕ) → unquoted_of bytes ≡ Some text
    → text_of text ≡ quoted_text_in bytes
quoted_short bytes text is =
    short_as (nat_le (length text) 4096) (list_all is_text_byte text) text
    (unquoted_text bytes text is)
    ∙ ap short_of (sym is)

-- a text between quotes, and what is read of it
pub quotes_read : (bytes text : List ℕ) (answer : Result (List ℕ) LineError)
    → unquoted_of bytes ≡ Some text → Gives answer (short_text text)
    → Gives answer (and_then (ok_or (unquoted_of bytes) NoQuote) short_text)
quotes_read bytes text answer is gives =
    subst (λ read. Gives answer (and_then (ok_or read NoQuote) short_text)) (sym is) gives
