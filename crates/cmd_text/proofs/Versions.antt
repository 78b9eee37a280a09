-- A script of version 1 does not begin as one of version 2 does: there its first line would be no
-- command.
use Rattle.std.proofs.Common.{◌≡◌, ℕ, true, false, List, [], ◌∷◌, Ok, codes}
use Rattle.std.proofs.Common.{refl, sym, ap, ◌∙◌}
use Rattle.std.specs.Prelude.{if◌then◌else◌}
use Rattle.std.specs.Str.Lines.{strip_carriage_return}
use Rattle.std.proofs.lemmas.Slice.Eq.{bytes_eq-Decides}
use Rattle.doc_model.specs.declared.command.Command.{Command}
use Rattle.line_texts.specs.Lines.{lines_of}
use Rattle.cmd_text.specs.Form.{first_of, is_second}
use Rattle.cmd_text.specs.Line.{bare_reading_of}
use Rattle.cmd_text.specs.Script.{commands_from, first_script_of, with_line}
use Rattle.cmd_text.specs.Second.{second_script_of}
use Rattle.cmd_text.specs.Whole.{script_of}

never : (lines : List (List ℕ)) (commands : List Command) → commands_from 1 lines ≡ Ok commands
    → strip_carriage_return (first_of lines) ≡ codes "docs 2" → ⊥
never [] commands is same = cc
never (line ∷ lines) commands is same =
    let fault = ap (λ l. with_line 1 (bare_reading_of l) (commands_from 2 lines)) (sym same) in
    let both = fault ∙ is in
    cc

pub first_is_whole : (bytes : List ℕ) (commands : List Command)
    → first_script_of bytes ≡ Ok commands → script_of bytes ≡ Ok commands
first_is_whole bytes commands is =
    elim (is_second bytes) as (λ t. is_second bytes ≡ t
    → (if t then second_script_of bytes else first_script_of bytes) ≡ Ok commands) [
      | true ↦ λ e. absurd (never (lines_of bytes) commands is ((bytes_eq-Decides _ _).0 e))
      | false ↦ λ e. is
    ] refl
