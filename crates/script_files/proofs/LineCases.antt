-- What is so of each kind of line is so of the line of any two draws.
use Rattle.std.proofs.Common.{ℕ, ◌%◌, List, ◌++◌}
use Rattle.std.specs.Prelude.{codes, decimal}
use Rattle.script_files.specs.Generated.{ask_of, ask_text_of, copy_text_of, line_text_of}
use Rattle.script_files.specs.Generated.{path_text_of}
use Rattle.script_files.specs.declared.asks.Ask.{Ask}
use Rattle.script_files.specs.declared.asks.Ask.TheVariants.{Copy, Del, DraftPut, Get, Put}

by_ask : (Fact : List ℕ → Type 0) (client node number : ℕ)
    → Fact (codes "put " ++ path_text_of client node ++ codes " t" ++ decimal number
    ++ codes "\n")
    → Fact (codes "get " ++ path_text_of client node ++ codes "\n")
    → Fact (codes "dput n" ++ decimal node ++ codes " t" ++ decimal number ++ codes "\n")
    → Fact (codes "del " ++ path_text_of client node ++ codes "\n")
    → Fact (codes "copy " ++ path_text_of client node ++ codes " " ++ copy_text_of client node
    ++ codes "\n")
    → (ask : Ask) → Fact (ask_text_of ask client node number)
by_ask Fact client node number put get draft del copy Put = put
by_ask Fact client node number put get draft del copy Get = get
by_ask Fact client node number put get draft del copy DraftPut = draft
by_ask Fact client node number put get draft del copy Del = del
by_ask Fact client node number put get draft del copy Copy = copy

pub line_cases : (Fact : List ℕ → Type 0) (client first second : ℕ)
    → Fact (codes "put " ++ path_text_of client (second % 32) ++ codes " t" ++ decimal second
    ++ codes "\n")
    → Fact (codes "get " ++ path_text_of client (second % 32) ++ codes "\n")
    → Fact (codes "dput n" ++ decimal (second % 32) ++ codes " t" ++ decimal second ++ codes "\n")
    → Fact (codes "del " ++ path_text_of client (second % 32) ++ codes "\n")
    → Fact (codes "copy " ++ path_text_of client (second % 32) ++ codes " "
    ++ copy_text_of client (second % 32) ++ codes "\n")
    → Fact (line_text_of client first second)
line_cases Fact client first second put get draft del copy =
    by_ask Fact client (second % 32) second put get draft del copy (ask_of first)
