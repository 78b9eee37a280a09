-- How the answers of this crate's calls relate to the definitions: equal, unless out of memory.
-- Source: this project's own.
use Rattle.std.specs.Prelude.{◌≡◌, ℕ, List, Result, Ok, Err, Vec}
use Rattle.std.specs.declared.alloc.Global.{Global}
use Rattle.doc_model.specs.declared.command.Command.{Command}
use Rattle.cmd_text.specs.declared.fault.LineError.{LineError}
use Rattle.cmd_text.specs.declared.fault.LineError.TheVariants as line
use Rattle.cmd_text.specs.declared.fault.ScriptError.{ScriptError}
use Rattle.cmd_text.specs.declared.fault.ScriptError.TheVariants as script
use Rattle.cmd_text.specs.declared.fault.ScriptFault.{ScriptFault}
use Rattle.cmd_text.specs.declared.fault.ScriptKind.{ScriptKind}

-- the answer is this reading of a part of a line
abbrev pub Gives : {A : Type 0} → Result A LineError → Result A ScriptKind → Type 0
Gives (Ok part) reading = reading ≡ Ok part
Gives (Err (line.Fault kind)) reading = reading ≡ Err kind
Gives (Err line.NoMemory) reading = Unit {0}

-- the answer is this reading of the line that has this number
abbrev pub GivesAt : {A : Type 0} → ℕ → Result A ScriptError → Result A ScriptKind → Type 0
GivesAt number (Ok part) reading = reading ≡ Ok part
GivesAt number (Err (script.Fault fault)) reading =
    (reading ≡ Err fault.kind) × (fault.line ≡ number)
GivesAt number (Err script.NoMemory) reading = Unit {0}

-- the answer is this script
abbrev pub Reads : Result (Vec Command Global) ScriptError → Result (List Command) ScriptFault
    → Type 0
Reads (Ok commands) script = script ≡ Ok commands.items
Reads (Err (script.Fault fault)) script = script ≡ Err fault
Reads (Err script.NoMemory) script = Unit {0}
