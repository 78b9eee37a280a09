-- What the loop over the lines of a script of version 2 keeps: the commands read so far, followed
-- by those of the lines that are left after an open batch or none, are those of the whole script.
use Rattle.std.proofs.Common.{◌≡◌, ℕ, ◌+◌, List, [], ◌∷◌, Option, Some, None, Result, Ok, Err}
use Rattle.std.proofs.Common.{append-nil, append_assoc, drop, refl, sym, ap, subst, ◌∙◌}
use Rattle.std.proofs.Common.{Bor}
use Rattle.std.specs.Prelude.{Vec}
use Rattle.std.specs.declared.alloc.Global.{Global}
use Rattle.doc_model.specs.declared.command.Command.{Command}
use Rattle.line_texts.specs.Lines.{lines_left, lines_of}
use Rattle.line_texts.proofs.Rests.{IsCut, cut_lines}
use Rattle.cmd_text.proofs.Lines.{with_front}
use Rattle.cmd_text.specs.Answers.{GivesAt, Reads}
use Rattle.cmd_text.specs.Line.{and_then}
use Rattle.cmd_text.specs.Script.{before}
use Rattle.cmd_text.specs.Second.{closed, closed_behind, second_from, second_script_of, turn_of}
use Rattle.cmd_text.specs.Second.{with_last, with_turn}
use Rattle.cmd_text.specs.declared.batch.Batch.{Batch}
use Rattle.cmd_text.specs.declared.batch.Turn.{Turn}
use Rattle.cmd_text.specs.declared.fault.ScriptError.{ScriptError}
use Rattle.cmd_text.specs.declared.fault.ScriptError.TheVariants as script
use Rattle.cmd_text.specs.declared.fault.ScriptFault.{ScriptFault}
use Rattle.cmd_text.specs.declared.fault.ScriptKind.{ScriptKind}

with_none : (script : Result (List Command) ScriptFault) → with_front [] script ≡ script
with_none (Ok commands) = refl
with_none (Err fault) = refl

pub starts : (bytes line : List ℕ) (rest : Option (Bor (List ℕ))) → IsCut bytes line rest
    → with_front [] (second_from 2 None (lines_left rest)) ≡ second_script_of bytes
starts bytes line rest is =
    with_none (second_from 2 None (lines_left rest))
    ∙ ap (λ ls. second_from 2 None (drop 1 ls)) (sym (cut_lines bytes line rest is))

with_command : (front : List Command) (command : Option Command)
    (later : Result (List Command) ScriptFault)
    → with_front front (before command later) ≡ with_front (with_last front command) later
with_command front None later = refl
with_command front (Some command) (Ok commands) =
    ap Ok (sym (append_assoc front (command ∷ []) commands))
with_command front (Some command) (Err fault) = refl

-- the first of the lines that are left
first_turn : (n : ℕ) (batch : Option Batch) (bytes line : List ℕ) (rest : Option (Bor (List ℕ)))
    (reading : Result Turn ScriptKind) → IsCut bytes line rest → turn_of n batch line ≡ reading
    → second_from n batch (lines_of bytes)
    ≡ with_turn n reading (λ next. second_from (n + 1) next (lines_left rest))
first_turn n batch bytes line rest reading is turn =
    ap (second_from n batch) (cut_lines bytes line rest is)
    ∙ ap (λ r. with_turn n r (λ next. second_from (n + 1) next (lines_left rest))) turn

-- a line without a fault
pub goes_on : (n : ℕ) (batch : Option Batch) (bytes line : List ℕ)
    (rest : Option (Bor (List ℕ))) (front longer : List Command) (turn : Turn)
    (whole : Result (List Command) ScriptFault) → IsCut bytes line rest
    → turn_of n batch line ≡ Ok turn → longer ≡ with_last front turn.command
    → with_front front (second_from n batch (lines_of bytes)) ≡ whole
    → with_front longer (second_from (n + 1) turn.batch (lines_left rest)) ≡ whole
goes_on n batch bytes line rest front longer turn whole is read pushed so_far =
    let later = second_from (n + 1) turn.batch (lines_left rest) in
    ap (λ f. with_front f later) pushed
    ∙ sym (with_command front turn.command later)
    ∙ ap (with_front front) (sym (first_turn n batch bytes line rest (Ok turn) is read))
    ∙ so_far

-- a faulty line
pub stops : (error : ScriptError) (n : ℕ) (batch : Option Batch) (bytes line : List ℕ)
    (rest : Option (Bor (List ℕ))) (front : List Command)
    (whole : Result (List Command) ScriptFault) → IsCut bytes line rest
    → GivesAt n (Err error) (turn_of n batch line)
    → with_front front (second_from n batch (lines_of bytes)) ≡ whole → Reads (Err error) whole
stops (script.Fault fault) n batch bytes line rest front whole is faulty so_far =
    sym so_far
    ∙ ap (with_front front) (first_turn n batch bytes line rest (Err fault.kind) is faulty.0)
    ∙ ap (λ number. Err (record { line = number; kind = fault.kind })) (sym faulty.1)
stops script.NoMemory n batch bytes line rest front whole is faulty so_far = tt

-- the end
closing : (front : List Command) (batch : Option Batch)
    → with_front front (closed batch) ≡ closed_behind front batch
closing front None = ap Ok (simp append-nil)
closing front (Some batch) = refl

pub ends : (front : List Command) (batch : Option Batch)
    (whole : Result (List Command) ScriptFault)
    (answer : Result (Vec Command Global) ScriptError)
    → Reads answer (closed_behind front batch) → with_front front (closed batch) ≡ whole
    → Reads answer whole
ends front batch whole answer reads so_far =
    subst (Reads answer) (sym (closing front batch) ∙ so_far) reads

-- a fault of the reading is that of the turn
pub faulty_turn : {A B : Type 0} (error : ScriptError) (n : ℕ) (reading : Result A ScriptKind)
    (later : A → Result B ScriptKind) → GivesAt {A = A} n (Err error) reading
    → GivesAt {A = B} n (Err error) (and_then reading later)
faulty_turn (script.Fault fault) n reading later is =
    (ap (λ r. and_then r later) is.0, is.1)
faulty_turn script.NoMemory n reading later is = tt
