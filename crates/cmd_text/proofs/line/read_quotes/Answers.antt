-- What is between quotes is a text, if it is short enough.
use Rattle.std.proofs.Common.{◌≡◌, ℕ, true, List, Some, sym, subst}
use Rattle.std.specs.List.{list_all}
use Rattle.doc_tree.specs.Words.{is_text_byte}
use Rattle.quoted_text.specs.Answers.{IsRead}
use Rattle.quoted_text.specs.Quoted.{unquoted_of}
use Rattle.cmd_text.specs.Answers.{Gives}
use Rattle.cmd_text.specs.Line.{short_text}
use Rattle.cmd_text.proofs.Quoting.{quotes_read, unquoted_text}
use Rattle.cmd_text.proofs.line.read_quotes.Goals as goal

pub read_short-requires : goal.read_short-requires
read_short-requires c =
    let bytes = c.args.bytes.now in
    let items = c.in-Some.text.items in
    let read : unquoted_of bytes ≡ Some items =
    subst (λ r. IsRead r (unquoted_of bytes)) c.in-Some.is c.in_ok-text.ensures.text in
    subst (λ (b : List ℕ). list_all is_text_byte b ≡ true) (sym c.deref.ensures.value)
    (unquoted_text bytes items read)

pub returns-in-Some : goal.returns-in-Some
returns-in-Some c =
    let bytes = c.args.bytes.now in
    let items = c.in-Some.text.items in
    let read : unquoted_of bytes ≡ Some items =
    subst (λ r. IsRead r (unquoted_of bytes)) c.in-Some.is c.in_ok-text.ensures.text in
    quotes_read bytes items c.read_short.result read
    (subst (λ (b : List ℕ). Gives c.read_short.result (short_text b)) c.deref.ensures.value
    c.read_short.ensures)
