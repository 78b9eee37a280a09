-- The script that is made for a client.
--
-- Each line takes two draws. The first chooses what the line asks for, the second which node, and
-- the text where there is one.
-- Source: this project's own.
use Rattle.std.specs.Prelude.{ℕ, zero, suc, ◌%◌, ◌==◌, List, [], ◌++◌, codes, decimal}
use Rattle.std.specs.Prelude.{if◌then◌else◌, nat_lt}
use Rattle.script_files.specs.Draws.{drawn_at, opening_of, state_after}
use Rattle.script_files.specs.declared.asks.Ask.{Ask}
use Rattle.script_files.specs.declared.asks.Ask.TheVariants.{Copy, Del, DraftPut, Get, Put}

-- what a line asks for, by the first of its draws
abbrev pub ask_of : ℕ → Ask
ask_of first =
    if nat_lt (first % 8) 4 then Put
    else if first % 8 == 4 then Get
    else if first % 8 == 5 then DraftPut
    else if first % 8 == 6 then Del
    else Copy

-- the path of a client's node
abbrev pub path_text_of : ℕ → ℕ → List ℕ
path_text_of client node = codes "c" ++ decimal client ++ codes "/n" ++ decimal node

-- the path of the copy of that node
abbrev pub copy_text_of : ℕ → ℕ → List ℕ
copy_text_of client node = codes "c" ++ decimal client ++ codes "/m" ++ decimal node

-- the line of a client that asks so for this node, with this number for a text
abbrev pub ask_text_of : Ask → ℕ → ℕ → ℕ → List ℕ
ask_text_of Put client node number =
    codes "put " ++ path_text_of client node ++ codes " t" ++ decimal number ++ codes "\n"
ask_text_of Get client node number = codes "get " ++ path_text_of client node ++ codes "\n"
ask_text_of DraftPut client node number =
    codes "dput n" ++ decimal node ++ codes " t" ++ decimal number ++ codes "\n"
ask_text_of Del client node number = codes "del " ++ path_text_of client node ++ codes "\n"
ask_text_of Copy client node number =
    codes "copy " ++ path_text_of client node ++ codes " " ++ copy_text_of client node
    ++ codes "\n"

-- the line of two draws
abbrev pub line_text_of : ℕ → ℕ → ℕ → List ℕ
line_text_of client first second = ask_text_of (ask_of first) client (second % 32) second

-- so many lines, from this state on
abbrev pub lines_from : ℕ → ℕ → ℕ → List ℕ
lines_from client state zero = []
lines_from client state (suc more) =
    line_text_of client (drawn_at (state_after state)) (drawn_at (state_after (state_after state)))
    ++ lines_from client (state_after (state_after state)) more

-- the script
abbrev pub generated_of : ℕ → ℕ → ℕ → List ℕ
generated_of start client commands = lines_from client (opening_of start client) commands
