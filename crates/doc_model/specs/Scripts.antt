-- What the scripts of several clients hold, without the memory that they stand in.
-- Source: this project's.
use Rattle.std.specs.Prelude.{List, Vec, map}
use Rattle.std.specs.declared.alloc.Global.{Global}
use Rattle.doc_model.specs.declared.command.Command.{Command}

-- the scripts as lists of commands
abbrev pub lists_of : List (Vec Command Global) → List (List Command)
lists_of scripts = map (λ script. script.items) scripts
