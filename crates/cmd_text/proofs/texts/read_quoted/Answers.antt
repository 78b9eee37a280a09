-- A text between quotes is one of a document, if it is short enough.
use Rattle.std.proofs.Common.{◌≡◌, Some, IfOk, ap, subst, ◌∙◌}
use Rattle.doc_tree.specs.Words.{text_of}
use Rattle.quoted_text.specs.Answers.{IsRead}
use Rattle.quoted_text.specs.Quoted.{unquoted_of}
use Rattle.cmd_text.specs.Texts.{quoted_text_in}
use Rattle.cmd_text.proofs.Quoting.{quoted_short}
use Rattle.cmd_text.proofs.texts.read_quoted.Goals as goal

pub returns-in-Some : goal.returns-in-Some
returns-in-Some c =
    let bytes = c.args.bytes.now in
    let items = c.in-Some.text.items in
    let read : unquoted_of bytes ≡ Some items =
    subst (λ r. IsRead r (unquoted_of bytes)) c.in-Some.is c.in_ok-text.ensures.text in
    let same : text_of c.deref.result.now ≡ quoted_text_in bytes =
    ap text_of c.deref.ensures.value ∙ quoted_short bytes items read in
    record { text = subst (λ t. IfOk c.read.result (λ text. text ≡ t)) same c.read.ensures }
