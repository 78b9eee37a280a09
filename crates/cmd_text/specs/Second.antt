-- A script of version 2: the list of commands that its lines are, or its first faulty line.
--
-- The first line says the version and holds no command. The lines from a `begin` to the next
-- `commit` are the edits of one command, of which there are at most 1,000.
-- Source: this project's own.
use Rattle.std.specs.Prelude.{ℕ, ◌+◌, List, [], ◌∷◌, ◌++◌, length, nat_lt, if◌then◌else◌, Option}
use Rattle.std.specs.Prelude.{Some, None, is_some, Result, Ok, Err, drop}
use Rattle.line_texts.specs.Lines.{lines_of}
use Rattle.doc_model.specs.declared.command.Command.{Command}
use Rattle.doc_model.specs.declared.command.Command.TheVariants as commands
use Rattle.doc_model.specs.declared.edits.Edit.{Edit}
use Rattle.cmd_text.specs.Held.{second_reading_of}
use Rattle.cmd_text.specs.Line.{and_then}
use Rattle.cmd_text.specs.Script.{before}
use Rattle.cmd_text.specs.declared.batch.Batch.{Batch}
use Rattle.cmd_text.specs.declared.batch.Turn.{Turn}
use Rattle.cmd_text.specs.declared.fault.ScriptFault.{ScriptFault}
use Rattle.cmd_text.specs.declared.fault.ScriptKind.{ScriptKind}
use Rattle.cmd_text.specs.declared.fault.ScriptKind.TheVariants.{LongBatch, NoBatch}
use Rattle.cmd_text.specs.declared.held.Held.{Held}
use Rattle.cmd_text.specs.declared.held.Held.TheVariants as held

-- no command ends here
abbrev pub goes_on : Option Batch → Turn
goes_on batch = record { command = None; batch = batch }

-- a batch with one edit more
abbrev pub with_edit : Edit → Option Batch → Result Turn ScriptKind
with_edit edit None = Ok (goes_on None)
with_edit edit (Some batch) =
    if nat_lt (length batch.edits) 1000
    then Ok (goes_on (Some (record { line = batch.line; edits = batch.edits ++ edit ∷ [] })))
    else Err LongBatch

-- a batch is one command at its end
abbrev pub ended : Option Batch → Turn
ended None = goes_on None
ended (Some batch) = record { command = Some (commands.Batch batch.edits); batch = None }

-- what a line with this number makes of the batch, by what it holds
abbrev pub turned : ℕ → Option Held → Option Batch → Result Turn ScriptKind
turned number None batch = Ok (goes_on batch)
turned number (Some (held.Command command)) batch =
    Ok (record { command = Some command; batch = batch })
turned number (Some (held.Edit edit)) batch = with_edit edit batch
turned number (Some held.Begin) batch =
    Ok (goes_on (Some (record { line = number; edits = [] })))
turned number (Some held.Commit) batch = Ok (ended batch)

abbrev pub turn_of : ℕ → Option Batch → List ℕ → Result Turn ScriptKind
turn_of number batch line =
    and_then (second_reading_of (is_some batch) line) (λ what. turned number what batch)

-- a line's turn, and then the lines after it
abbrev pub with_turn : ℕ → Result Turn ScriptKind
    → (Option Batch → Result (List Command) ScriptFault)
    → Result (List Command) ScriptFault
with_turn number (Ok turn) later = before turn.command (later turn.batch)
with_turn number (Err kind) later = Err (record { line = number; kind = kind })

-- a batch that is not ended is at fault where it begins
abbrev pub closed : Option Batch → Result (List Command) ScriptFault
closed None = Ok []
closed (Some batch) = Err (record { line = batch.line; kind = NoBatch })

-- a command after others, if there is one
abbrev pub with_last : List Command → Option Command → List Command
with_last front None = front
with_last front (Some command) = front ++ command ∷ []

-- these commands, where no batch is left open after them
abbrev pub closed_behind : List Command → Option Batch → Result (List Command) ScriptFault
closed_behind front None = Ok front
closed_behind front (Some batch) = Err (record { line = batch.line; kind = NoBatch })

-- the commands of the lines, of which the first has this number, after an open batch or none
abbrev pub second_from : ℕ → Option Batch → List (List ℕ) → Result (List Command) ScriptFault
second_from number batch [] = closed batch
second_from number batch (line ∷ lines) =
    with_turn number (turn_of number batch line) (λ next. second_from (number + 1) next lines)

-- the script
abbrev pub second_script_of : List ℕ → Result (List Command) ScriptFault
second_script_of bytes = second_from 2 None (drop 1 (lines_of bytes))
