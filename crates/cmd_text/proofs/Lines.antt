-- What the loop over the lines of a script keeps: the commands read so far, and before the lines
-- that are left, are those of the whole script.
use Rattle.std.proofs.Common.{append-nil, ◌≡◌, ℕ, ◌+◌, ◌<◌, List, [], ◌∷◌, ◌++◌, length, drop}
use Rattle.std.proofs.Common.{get_or, Some, None, Result, Ok, Err, refl, sym, ap, ◌∙◌, arith}
use Rattle.std.proofs.Common.{append_assoc, add-one}
use Rattle.std.proofs.Math.Seq.{drop-cons}
use Rattle.std.proofs.lemmas.List.{drop_all}
use Rattle.doc_model.specs.declared.command.Command.{Command}
use Rattle.cmd_text.specs.Answers.{GivesAt, Reads}
use Rattle.cmd_text.specs.Line.{reading_of}
use Rattle.cmd_text.specs.Script.{before, with_line, commands_from}
use Rattle.cmd_text.specs.declared.fault.ScriptError.{ScriptError}
use Rattle.cmd_text.specs.declared.fault.ScriptError.TheVariants as script
use Rattle.cmd_text.specs.declared.fault.ScriptFault.{ScriptFault}

-- a script whose first commands are read already
abbrev pub with_front : List Command → Result (List Command) ScriptFault
    → Result (List Command) ScriptFault
with_front front (Ok commands) = Ok (front ++ commands)
with_front front (Err fault) = Err fault

-- the lines after the first n, read from there on
abbrev pub left_after : ℕ → List (List ℕ) → Result (List Command) ScriptFault
left_after n lines = commands_from (n + 1) (drop n lines)

-- the next line
left_after-next : (n : ℕ) (lines : List (List ℕ)) (line : List ℕ) → n < length lines
    → line ≡ get_or lines n line → left_after n lines ≡ with_line (n + 1) (reading_of line)
    (left_after (n + 1) lines)
left_after-next n lines line more is =
    ap (commands_from (n + 1)) (drop-cons lines n line more)
    ∙ rw (← is, add-one) refl

with_front-more : (front : List Command) (command : Command)
    (later : Result (List Command) ScriptFault)
    → with_front front (before (Some command) later) ≡ with_front (front ++ command ∷ []) later
with_front-more front command (Ok commands) =
    ap Ok (sym (append_assoc front (command ∷ []) commands))
with_front-more front command (Err fault) = refl

-- a line without a command
pub goes_past : (n : ℕ) (lines : List (List ℕ)) (line : List ℕ) (front : List Command)
    (whole : Result (List Command) ScriptFault)
    → n < length lines → line ≡ get_or lines n line → reading_of line ≡ Ok None
    → with_front front (left_after n lines) ≡ whole
    → with_front front (left_after (n + 1) lines) ≡ whole
goes_past n lines line front whole more is empty so_far =
    let next = left_after-next n lines line more is in
    let with = ap (λ r. with_line (n + 1) r (left_after (n + 1) lines)) empty in
    ap (with_front front) (sym (next ∙ with)) ∙ so_far

-- a line with one
pub goes_on : (n : ℕ) (lines : List (List ℕ)) (line : List ℕ) (front : List Command)
    (whole : Result (List Command) ScriptFault) (command : Command)
    → n < length lines → line ≡ get_or lines n line → reading_of line ≡ Ok (Some command)
    → with_front front (left_after n lines) ≡ whole
    → with_front (front ++ command ∷ []) (left_after (n + 1) lines) ≡ whole
goes_on n lines line front whole command more is holds so_far =
    let next = left_after-next n lines line more is in
    let with = ap (λ r. with_line (n + 1) r (left_after (n + 1) lines)) holds in
    sym (with_front-more front command (left_after (n + 1) lines))
    ∙ ap (with_front front) (sym (next ∙ with)) ∙ so_far

-- a faulty line
pub stops : (error : ScriptError) (n : ℕ) (lines : List (List ℕ)) (line : List ℕ)
    (front : List Command) (whole : Result (List Command) ScriptFault)
    → n < length lines → line ≡ get_or lines n line → GivesAt (n + 1) (Err error) (reading_of line)
    → with_front front (left_after n lines) ≡ whole → Reads (Err error) whole
stops (script.Fault fault) n lines line front whole more is faulty so_far =
    let next = left_after-next n lines line more is in
    let with = ap (λ r. with_line (n + 1) r (left_after (n + 1) lines)) faulty.0 in
    sym so_far ∙ ap (with_front front) (next ∙ with)
    ∙ ap (λ number. Err (record { line = number; kind = fault.kind })) (sym faulty.1)
stops script.NoMemory n lines line front whole more is faulty so_far = tt

-- the end
pub ends : (n : ℕ) (lines : List (List ℕ)) (front : List Command)
    (whole : Result (List Command) ScriptFault)
    → n ≡ length lines → with_front front (left_after n lines) ≡ whole → whole ≡ Ok front
ends n lines front whole all so_far =
    let none : drop n lines ≡ [] = drop_all n lines (omega arith) in
    let read = ap (λ ls. with_front front (commands_from (n + 1) ls)) none in
    sym so_far ∙ read ∙ ap Ok (simp append-nil)
