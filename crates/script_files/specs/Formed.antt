-- The scripts of several files with the forms of their texts: both of one list of contents.
-- Source: this project's own.
use Rattle.std.specs.Prelude.{◌≡◌, ℕ, List, Option, Result, Ok, Err, map}
use Rattle.cmd_text.specs.Form.{form_of}
use Rattle.cmd_text.specs.declared.form.Form.{Form}
use Rattle.doc_model.specs.declared.command.Command.{Command}
use Rattle.script_files.specs.Files.{Agree}
use Rattle.doc_model.specs.Scripts.{lists_of}
use Rattle.script_files.specs.Scripts.{AreScripts, scripts_of}
use Rattle.script_files.specs.Sorts.{OfScripts, Refused, sort_of}
use Rattle.script_files.specs.declared.fault.Fault.{Fault}
use Rattle.script_files.specs.declared.scripts.Scripts.{Scripts}

-- the scripts and the forms of some contents, which are what the files hold where it is told
abbrev pub AreRead : List (Option (List ℕ)) → List (List Command) → List Form → Type 0
AreRead told scripts forms =
    (contents : List (List ℕ)) × Agree told contents × (scripts_of contents ≡ Ok scripts)
    × (forms ≡ map form_of contents)

-- the answer is the scripts of the files with their forms, or the fault that decides, or a file
-- could not be read, or memory ran out
abbrev pub DecidesFiles : List (Option (List ℕ)) → Result Scripts Fault → Type 0
DecidesFiles told (Ok scripts) =
    AreRead told (lists_of scripts.commands.items) scripts.forms.items
DecidesFiles told (Err fault) =
    Refused OfScripts (sort_of fault) (AreScripts told (Err fault)) (Unit {0})
