-- How the answer to a file, or to several in turn, stands to what they hold.
-- Source: this project's own.
use Rattle.std.specs.Prelude.{◌≡◌, ℕ, List, ◌++◌, Option, Result, Ok, Err, Vec}
use Rattle.std.specs.declared.alloc.Global.{Global}
pub use Rattle.doc_model.specs.Scripts.{lists_of}
use Rattle.doc_model.specs.declared.command.Command.{Command}
use Rattle.script_files.specs.Scripts.{IsScriptIn, AreScriptsFrom}
use Rattle.script_files.specs.Sorts.{OfScripts, Refused, sort_of}
use Rattle.script_files.specs.declared.fault.Fault.{Fault}
use Rattle.script_files.specs.declared.fault.Fault.TheVariants.{ReadFault}

-- the answer is this script, or memory ran out
abbrev pub Decides : Result (Vec Command Global) Fault → Result (List Command) Fault → Type 0
Decides (Ok commands) script = script ≡ Ok commands.items
Decides (Err fault) script = Refused OfScripts (sort_of fault) (script ≡ Err fault) ⊥

-- the answer is the script of the file with this number, or it could not be read, or memory ran out
abbrev pub DecidesFile : ℕ → ℕ → Result (Vec Command Global) Fault → Option (List ℕ) → Type 0
DecidesFile place before (Ok commands) told = IsScriptIn place before told (Ok commands.items)
DecidesFile place before (Err fault) told =
    Refused OfScripts (sort_of fault) (IsScriptIn place before told (Err fault))
    (fault ≡ ReadFault place)

-- the scripts of the files from this one on were added to a list, or the answer is the fault that
-- decides, or a file could not be read, or memory ran out
abbrev pub DecidesFrom : ℕ → ℕ → List (Option (List ℕ)) → Result (Unit {0}) Fault
    → List (List Command) → List (List Command) → Type 0
DecidesFrom place before told (Ok done) old new =
    (scripts : List (List Command)) × (new ≡ old ++ scripts)
    × AreScriptsFrom place before told (Ok scripts)
DecidesFrom place before told (Err fault) old new =
    Refused OfScripts (sort_of fault) (AreScriptsFrom place before told (Err fault)) (Unit {0})
