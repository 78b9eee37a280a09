-- Which version of the grammar a script is written in, and with it the form of its texts.
-- Source: this project's own.
use Rattle.std.specs.Prelude.{ℕ, Bool, List, [], ◌∷◌, codes, bytes_eq, if◌then◌else◌}
use Rattle.std.specs.Str.Lines.{strip_carriage_return}
use Rattle.line_texts.specs.Lines.{lines_of}
use Rattle.cmd_text.specs.declared.form.Form.{Form}
use Rattle.cmd_text.specs.declared.form.Form.TheVariants.{Plain, Quoted}

-- the first line of some, or an empty one
abbrev pub first_of : List (List ℕ) → List ℕ
first_of [] = []
first_of (line ∷ lines) = line

-- the first line says that the script has version 2
abbrev pub is_second : List ℕ → Bool
is_second bytes = bytes_eq (strip_carriage_return (first_of (lines_of bytes))) (codes "docs 2")

abbrev pub version_of : List ℕ → ℕ
version_of bytes = if is_second bytes then 2 else 1

abbrev pub form_of : List ℕ → Form
form_of bytes = if is_second bytes then Quoted else Plain
