use Rattle.std.proofs.Common.{◌≡◌, ℕ, Bool, true, false, List, Some, None, Ok, Err, ◌∙◌, sym}
use Rattle.std.proofs.Common.{Option, Result}
use Rattle.std.proofs.lemmas.Bool.{false≢true}
use Rattle.std.specs.Prelude.{if◌then◌else◌, ◌&&◌}
use Rattle.cmd_text.specs.declared.fault.ScriptKind.{ScriptKind}
use Rattle.cmd_text.specs.declared.fault.ScriptKind.TheVariants.{LongText}
use Rattle.cmd_text.proofs.line.read_short.Goals as goal

abbrev read_as : Bool → List ℕ → Result (List ℕ) ScriptKind
read_as short bytes = if short then Ok bytes else Err LongText

abbrev text_as : Bool → Bool → List ℕ → Option (List ℕ)
text_as short plain bytes = if short && plain then Some bytes else None

short_text : (short plain : Bool) (bytes text : List ℕ) → plain ≡ true
    → text_as short plain bytes ≡ Some text → read_as short bytes ≡ Ok text
short_text true true bytes text is from = cc
short_text true false bytes text is from = absurd (false≢true is)
short_text false true bytes text is from = cc
short_text false false bytes text is from = cc

long_text : (short plain : Bool) (bytes : List ℕ) → plain ≡ true
    → text_as short plain bytes ≡ None → read_as short bytes ≡ Err LongText
long_text true true bytes is from = cc
long_text true false bytes is from = absurd (false≢true is)
long_text false plain bytes is from = cc

pub returns-in-Some : goal.returns-in-Some
returns-in-Some c =
    short_text _ _ c.args.bytes.now c.in-Some.text c.requires
    (sym c.in_ok-text.ensures ∙ c.in-Some.is)

pub returns-in-None : goal.returns-in-None
returns-in-None c =
    long_text _ _ c.args.bytes.now c.requires (sym c.in_ok-text.ensures ∙ c.in-None.is)
