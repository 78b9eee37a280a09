-- The scripts that are made from a number: what the texts of the generator hold, by the grammar of
-- scripts.
-- Source: this project's own.
use Rattle.std.specs.Prelude.{◌≡◌, ℕ, zero, suc, ◌+◌, List, [], ◌∷◌, Result, Ok}
use Rattle.std.specs.Prelude.{Err, Vec}
use Rattle.std.specs.declared.alloc.Global.{Global}
use Rattle.doc_model.specs.declared.command.Command.{Command}
use Rattle.script_files.specs.Generated.{generated_of}
use Rattle.doc_model.specs.Scripts.{lists_of}
use Rattle.script_files.specs.Scripts.{scripts_from}
use Rattle.script_files.specs.declared.fault.Fault.{Fault}
use Rattle.script_files.specs.declared.fault.Fault.TheVariants.{Memory}

-- the texts of so many clients, of whom the first has this number
abbrev pub texts_from : ℕ → ℕ → ℕ → ℕ → List (List ℕ)
texts_from start commands client zero = []
texts_from start commands client (suc more) =
    generated_of start client commands ∷ texts_from start commands (client + 1) more

-- these are the scripts of so many clients
abbrev pub AreMade : ℕ → ℕ → ℕ → List (List Command) → Type 0
AreMade start clients commands scripts =
    scripts_from 1 0 (texts_from start commands 1 clients) ≡ Ok scripts

-- the answer is the scripts, or memory ran out
abbrev pub DecidesMade : ℕ → ℕ → ℕ → Result (Vec (Vec Command Global) Global) Fault
    → Type 0
DecidesMade start clients commands (Ok scripts) =
    AreMade start clients commands (lists_of scripts.items)
DecidesMade start clients commands (Err fault) = fault ≡ Memory
