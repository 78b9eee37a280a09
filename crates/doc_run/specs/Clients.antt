-- A run of clients: the options and the scripts by which it comes to what it does.
--
-- Scripts are given by files or by a generator. A statement of this file takes what is given as a
-- fact of the scripts, or of the fault in their place.
-- Source: this project's own.
use Rattle.std.specs.Prelude.{◌≡◌, ℕ, List, Option, Result, Ok, Err}
use Rattle.cell_words.specs.declared.controls.TheConstants.{GREATEST_CYCLES}
use Rattle.client_run.specs.declared.options.Options.{Options}
use Rattle.cmd_text.specs.declared.form.Form.{Form}
use Rattle.doc_model.specs.declared.command.Command.{Command}
use Rattle.command_line.specs.Requests.{RunAsked}
use Rattle.command_line.specs.declared.request.GenWords.{GenWords}
use Rattle.script_files.specs.Formed.{AreRead}
use Rattle.script_files.specs.Made.{AreMade}
use Rattle.script_files.specs.Scripts.{AreScripts}
use Rattle.script_files.specs.Sorts.{OfScripts, Refused, sort_of}
use Rattle.script_files.specs.declared.fault.Fault.{Fault}
use Rattle.script_files.specs.declared.fault.Fault.TheVariants.{Memory}
use Rattle.store_run.specs.Finished.{Comes}
use Rattle.store_run.specs.declared.finished.Finished.{Finished}
use Rattle.doc_run.specs.declared.clients.Ran.{Ran}

-- the options that the words of a run ask for
abbrev pub options_of : RunAsked → Options
options_of run = record {
  cells = run.cells;
  minor = run.minor;
  keep = run.keep;
  versions = run.versions;
  cycles = run.cycles;
}

-- those of a run without words for them
abbrev pub default_options : Options
default_options = record {
  cells = 65_536;
  minor = 8_192;
  keep = 8;
  versions = 1_000_000;
  cycles = GREATEST_CYCLES;
}

-- this is what a run of these scripts came to
abbrev pub IsRunOf : Options → List (List Command) → Finished → Type 0
IsRunOf options scripts f = Comes options scripts f.logs.items f.image f.passes f.totals

-- the scripts that the generator makes by these words, and no fault in their place
abbrev pub IsMade : GenWords → Result (List (List Command)) Fault → Type 0
IsMade made (Ok scripts) = AreMade made.start made.clients made.commands scripts
IsMade made (Err fault) = ⊥

-- this is what a run of the scripts came to that are given
abbrev pub IsRunGiven : (Result (List (List Command)) Fault → Type 0) → Options → Finished
    → Type 0
IsRunGiven Given options f =
    (scripts : List (List Command)) × Given (Ok scripts) × IsRunOf options scripts f

-- the answer is what a run of these scripts came to, or memory was wanting
abbrev pub Finishes : Options → List (List Command) → Result Finished Fault → Type 0
Finishes options scripts (Ok f) = IsRunOf options scripts f
Finishes options scripts (Err fault) = fault ≡ Memory

-- the same, with the forms of the scripts
abbrev pub FinishesWith : Options → List (List Command) → List Form → Result Ran Fault → Type 0
FinishesWith options scripts forms (Ok ran) =
    IsRunOf options scripts ran.finished × (ran.forms.items ≡ forms)
FinishesWith options scripts forms (Err fault) = fault ≡ Memory

-- this is what a run of the files' scripts came to, and these are the forms of the same scripts
abbrev pub IsRunWithForms : List (Option (List ℕ)) → Options → Finished → List Form → Type 0
IsRunWithForms told options f forms =
    (scripts : List (List Command)) × AreRead told scripts forms × IsRunOf options scripts f

-- the answer is what a run of the files' scripts came to, or the fault that decides, or a file
-- could not be read, or memory was wanting
abbrev pub DecidesRun : List (Option (List ℕ)) → Options → Result Ran Fault → Type 0
DecidesRun told options (Ok ran) = IsRunWithForms told options ran.finished ran.forms.items
DecidesRun told options (Err fault) =
    Refused OfScripts (sort_of fault) (AreScripts told (Err fault)) (Unit {0})

-- the answer is what a run of generated scripts came to, or memory was wanting
abbrev pub MakesRun : GenWords → Result Finished Fault → Type 0
MakesRun made (Ok f) = IsRunGiven (IsMade made) default_options f
MakesRun made (Err fault) = fault ≡ Memory
