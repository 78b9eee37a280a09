-- The scripts that several files hold, or the fault that decides.
--
-- Too many files are refused unread. Else each file in turn is looked at for its size first, then
-- for its grammar, then for the number of commands in the files up to it. The first file that is
-- refused decides.
-- Source: this project's own.
use Rattle.std.specs.Prelude.{ℕ, List, Option}
use Rattle.std.specs.Prelude.{Result, Ok, Err}
use Rattle.doc_model.specs.declared.command.Command.{Command}
use Rattle.cmd_text.specs.Whole.{script_of}
use Rattle.cmd_text.specs.declared.fault.ScriptFault.{ScriptFault}
use Rattle.script_files.specs.Files.{most_files}
use Rattle.script_files.specs.InTurn.{AreListsFrom, AreListsWithin, IsListIn, Parse, StopsIn}
use Rattle.script_files.specs.InTurn.{counted, list_in, lists_from, lists_within}
use Rattle.script_files.specs.Due.{IsDueBy, IsDueIn, IsFaultyIn}
use Rattle.script_files.specs.Sorts.{OfScripts}
use Rattle.script_files.specs.declared.fault.Fault.{Fault}
use Rattle.script_files.specs.declared.fault.Fault.TheVariants.{Script}

-- what the reading of the script in this file gives
abbrev pub after_reading : ℕ → ℕ → Result (List Command) ScriptFault
    → Result (List Command) Fault
after_reading file before (Ok commands) = counted before commands
after_reading file before (Err fault) = Err (Script file fault.line fault.kind)

-- the script that bytes of this file are that are not too many
abbrev pub parse_script : Parse Command
parse_script file before bytes = after_reading file before (script_of bytes)

-- the script that the bytes of this file are, after so many commands of the files before it
abbrev pub script_in : ℕ → ℕ → List ℕ → Result (List Command) Fault
script_in file before bytes = list_in parse_script file before bytes

-- the scripts of files with these contents, from this file on
abbrev pub scripts_from : ℕ → ℕ → List (List ℕ) → Result (List (List Command)) Fault
scripts_from file before contents = lists_from parse_script file before contents

-- the scripts of all files, if they are not too many
abbrev pub scripts_of : List (List ℕ) → Result (List (List Command)) Fault
scripts_of contents = lists_within most_files parse_script contents

-- the script of some bytes of this file, which are all that it holds where that is told
abbrev pub IsScriptIn : ℕ → ℕ → Option (List ℕ) → Result (List Command) Fault → Type 0
IsScriptIn file before told outcome = IsListIn parse_script file before told outcome

-- the scripts of some contents, from this file on, which are what the files hold where it is told
abbrev pub AreScriptsFrom : ℕ → ℕ → List (Option (List ℕ)) → Result (List (List Command)) Fault
    → Type 0
AreScriptsFrom file before told outcome = AreListsFrom parse_script file before told outcome

-- the scripts of all files, if they are not too many
abbrev pub AreScripts : List (Option (List ℕ)) → Result (List (List Command)) Fault → Type 0
AreScripts told outcome = AreListsWithin most_files parse_script told outcome

-- So many of the files, from this one on, were opened, and those before the last of them are
-- scripts: none is opened after one that is refused.
abbrev pub StopsBehind : ℕ → ℕ → List (Option (List ℕ)) → ℕ → ℕ → Type 0
StopsBehind file before told old new = StopsIn parse_script file before told old new

-- a fault of a script's grammar
abbrev pub IsFaultyLine : Fault → Type 0
IsFaultyLine fault = IsFaultyIn OfScripts fault

-- the status is that which the scripts of the files call for
abbrev pub IsDue : Result (List (List Command)) Fault → ℕ → Type 0
IsDue scripts status = IsDueIn OfScripts scripts status

-- the same of files of which it is told what they hold, or is not told
abbrev pub IsDueFor : List (Option (List ℕ)) → ℕ → Type 0
IsDueFor told status = IsDueBy OfScripts (λ contents. scripts_of contents) told status
