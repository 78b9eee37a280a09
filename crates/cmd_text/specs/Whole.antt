-- A script of either version.
-- Source: this project's own.
use Rattle.std.specs.Prelude.{ℕ, List, Result, if◌then◌else◌}
use Rattle.doc_model.specs.declared.command.Command.{Command}
use Rattle.cmd_text.specs.Form.{is_second}
use Rattle.cmd_text.specs.Script.{first_script_of}
use Rattle.cmd_text.specs.Second.{second_script_of}
use Rattle.cmd_text.specs.declared.fault.ScriptFault.{ScriptFault}

-- the commands of a script, by its first line, or its first faulty line
abbrev pub script_of : List ℕ → Result (List Command) ScriptFault
script_of bytes = if is_second bytes then second_script_of bytes else first_script_of bytes
