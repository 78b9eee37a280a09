-- The summary of a run of generated scripts.
-- Source: this project's own.
use Rattle.std.specs.Prelude.{ℕ, Bool, true, false, List, ◌++◌, codes, decimal, length}
use Rattle.std.specs.Prelude.{count_by}
use Rattle.doc_model.specs.Answers.{is_full, is_ok}
use Rattle.doc_model.specs.declared.command.Entry.{Entry}
use Rattle.cmd_text.specs.SummaryText.{total_text_of}
use Rattle.result_text.specs.declared.summary.Made.{Made}

-- the word for whether a history is one of a store
abbrev pub verdict_of : Bool → List ℕ
verdict_of true = codes "yes"
verdict_of false = codes "no"

-- the line of the numbers by which the scripts were made
abbrev pub made_text_of : Made → List ℕ
made_text_of made =
    codes "gen " ++ decimal made.start ++ codes " " ++ decimal made.clients ++ codes " "
    ++ decimal made.commands ++ codes "\n"

-- the six lines of the summary
abbrev pub lines_of : Made → ℕ → ℕ → ℕ → ℕ → List ℕ → List ℕ
lines_of made entries commits nodes full verdict =
    made_text_of made
    ++ total_text_of (codes "commands") entries
    ++ total_text_of (codes "commits") commits
    ++ total_text_of (codes "nodes") nodes
    ++ total_text_of (codes "full") full
    ++ (codes "legal " ++ verdict ++ codes "\n")

-- the summary: the numbers, the entries, those that made a version, the nodes of the latest
-- version, the entries that found the heap full, and the verdict
abbrev pub summary_text_of : Made → List Entry → ℕ → Bool → List ℕ
summary_text_of made merged nodes legal =
    lines_of made (length merged)
    (count_by (λ entry. is_ok entry.reply) merged)
    nodes
    (count_by (λ entry. is_full entry.reply) merged)
    (verdict_of legal)
