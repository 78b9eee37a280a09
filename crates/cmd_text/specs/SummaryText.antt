-- The lines that the program writes of a whole run: its merged history, and its totals.
-- Source: this project's own.
use Rattle.std.specs.Prelude.{ℕ, List, ◌++◌, codes, decimal}
use Rattle.doc_model.specs.declared.command.Entry.{Entry}
use Rattle.doc_model.specs.declared.totals.Totals.{Totals}
use Rattle.cmd_text.specs.ReplyText.{reply_text_of}
use Rattle.cmd_text.specs.declared.form.Form.TheVariants.{Plain}

-- the line of an entry: its place, its client, its number, and the line of its reply
abbrev pub history_text_of : Entry → List ℕ
history_text_of entry =
    decimal entry.place ++ codes " "
    ++ decimal entry.client ++ codes " "
    ++ decimal entry.number ++ codes " "
    ++ reply_text_of Plain entry.reply

-- the line of a total: what it counts, and how many
abbrev pub total_text_of : List ℕ → ℕ → List ℕ
total_text_of word count = word ++ codes " " ++ decimal count ++ codes "\n"

-- the lines of the totals, below a heading; the nodes are not among them
abbrev pub stats_text_of : Totals → List ℕ
stats_text_of totals =
    codes "stats\n"
    ++ total_text_of (codes "commands") totals.commands
    ++ total_text_of (codes "versions") totals.versions
    ++ total_text_of (codes "claimed") totals.claimed
    ++ total_text_of (codes "freed") totals.freed
    ++ total_text_of (codes "used") totals.used
    ++ total_text_of (codes "free") totals.free
    ++ total_text_of (codes "cycles") totals.cycles
