-- What the loop over the lines of a script keeps: the values read so far, before those of the lines
-- that are left, are those of the whole script.
use Rattle.std.proofs.Common.{◌≡◌, ℕ, ◌+◌, List, [], ◌∷◌, ◌++◌, Option, Some, None, Result, Ok, Err}
use Rattle.std.proofs.Common.{append-nil, append_assoc, refl, sym, ap, ◌∙◌, Bor}
use Rattle.line_texts.specs.Lines.{lines_left, lines_of}
use Rattle.line_texts.proofs.Rests.{IsCut, cut_lines}
use Rattle.script_files.specs.MailLine.{reading_of}
use Rattle.script_files.specs.MailScript.{before, numbered, values_from, with_line}
use Rattle.script_files.specs.declared.mail_fault.MailFault.{MailFault}

-- a script whose first values are read already
abbrev pub with_front : List ℕ → Result (List ℕ) MailFault → Result (List ℕ) MailFault
with_front front (Ok values) = Ok (front ++ values)
with_front front (Err fault) = Err fault

pub starts : (script : Result (List ℕ) MailFault) → with_front [] script ≡ script
starts (Ok values) = refl
starts (Err fault) = refl

-- the first of the lines that are left
first_line : (n : ℕ) (bytes line : List ℕ) (rest : Option (Bor (List ℕ)))
    (reading : Result (Option ℕ) MailFault) → IsCut bytes line rest
    → reading ≡ numbered n (reading_of line)
    → values_from n (lines_of bytes) ≡ with_line reading (values_from (n + 1) (lines_left rest))
first_line n bytes line rest reading is read =
    ap (values_from n) (cut_lines bytes line rest is)
    ∙ ap (λ r. with_line r (values_from (n + 1) (lines_left rest))) (sym read)

-- a line that sends nothing
pub goes_past : (n : ℕ) (bytes line : List ℕ) (rest : Option (Bor (List ℕ))) (front : List ℕ)
    (whole : Result (List ℕ) MailFault) → IsCut bytes line rest
    → Ok None ≡ numbered n (reading_of line)
    → with_front front (values_from n (lines_of bytes)) ≡ whole
    → with_front front (values_from (n + 1) (lines_left rest)) ≡ whole
goes_past n bytes line rest front whole is read so_far =
    ap (with_front front) (sym (first_line n bytes line rest (Ok None) is read)) ∙ so_far

with_value : (front : List ℕ) (value : ℕ) (later : Result (List ℕ) MailFault)
    → with_front front (before (Some value) later) ≡ with_front (front ++ value ∷ []) later
with_value front value (Ok values) = ap Ok (sym (append_assoc front (value ∷ []) values))
with_value front value (Err fault) = refl

-- a line that sends a value
pub goes_on : (n : ℕ) (bytes line : List ℕ) (rest : Option (Bor (List ℕ)))
    (front longer : List ℕ) (value : ℕ) (whole : Result (List ℕ) MailFault)
    → IsCut bytes line rest → Ok (Some value) ≡ numbered n (reading_of line)
    → longer ≡ front ++ value ∷ []
    → with_front front (values_from n (lines_of bytes)) ≡ whole
    → with_front longer (values_from (n + 1) (lines_left rest)) ≡ whole
goes_on n bytes line rest front longer value whole is read pushed so_far =
    let later = values_from (n + 1) (lines_left rest) in
    ap (λ f. with_front f later) pushed ∙ sym (with_value front value later)
    ∙ ap (with_front front) (sym (first_line n bytes line rest (Ok (Some value)) is read))
    ∙ so_far

-- a faulty line
pub stops : (n : ℕ) (bytes line : List ℕ) (rest : Option (Bor (List ℕ))) (front : List ℕ)
    (fault : MailFault) (whole : Result (List ℕ) MailFault) → IsCut bytes line rest
    → Err fault ≡ numbered n (reading_of line)
    → with_front front (values_from n (lines_of bytes)) ≡ whole → whole ≡ Err fault
stops n bytes line rest front fault whole is read so_far =
    sym so_far ∙ ap (with_front front) (first_line n bytes line rest (Err fault) is read)

-- the end
pub ends : (front : List ℕ) (whole : Result (List ℕ) MailFault)
    → with_front front (Ok []) ≡ whole → whole ≡ Ok front
ends front whole so_far = sym so_far ∙ ap Ok (simp append-nil)
