-- The text that a run writes: the clients' logs, each in the form of its script, then the merged
-- history and the totals, where they are asked for.
-- Source: this project's own.
use Rattle.std.specs.Prelude.{◌≡◌, ℕ, Bool, true, false, List, [], ◌∷◌, ◌++◌, codes, drop}
use Rattle.std.specs.Prelude.{flat_map}
use Rattle.doc_model.specs.ClientLog.{ClientLog}
use Rattle.doc_model.specs.Merge.{IsMerge}
use Rattle.doc_model.specs.declared.command.Entry.{Entry}
use Rattle.doc_model.specs.declared.totals.Totals.{Totals}
use Rattle.cmd_text.specs.ReplyText.{heading_of, reply_text_of}
use Rattle.cmd_text.specs.SummaryText.{history_text_of, stats_text_of}
use Rattle.cmd_text.specs.declared.form.Form.{Form}
use Rattle.cmd_text.specs.declared.form.Form.TheVariants.{Plain}
use Rattle.result_text.specs.declared.output.Shown.{Shown}

-- the line of each reply, in order
abbrev pub replies_of : Form → List Entry → List ℕ
replies_of form entries = flat_map (λ entry. reply_text_of form entry.reply) entries

-- a client's heading, and its replies below it, with their texts in this form
abbrev pub log_text_of : Form → ClientLog → List ℕ
log_text_of form log = heading_of log.client ++ replies_of form log.entries

-- the first of the forms, which is plain where there is none
abbrev pub first_form_of : List Form → Form
first_form_of [] = Plain
first_form_of (form ∷ forms) = form

-- the text of each client's log, in order, each in the form at its place
abbrev pub logs_text_of : List Form → List ClientLog → List ℕ
logs_text_of forms [] = []
logs_text_of forms (log ∷ logs) =
    log_text_of (first_form_of forms) log ++ logs_text_of (drop 1 forms) logs

-- the line of each entry, in order
abbrev pub entries_text_of : List Entry → List ℕ
entries_text_of entries = flat_map history_text_of entries

-- the text of a merged history, below its heading
abbrev pub history_of : List Entry → List ℕ
history_of merged = codes "history\n" ++ entries_text_of merged

-- the merged history of the logs was added to a text, where it is asked for
abbrev pub AddsHistory : Bool → List ClientLog → List ℕ → List ℕ → Type 0
AddsHistory true logs old new =
    (merged : List Entry) × IsMerge logs merged × (new ≡ old ++ history_of merged)
AddsHistory false logs old new = new ≡ old

-- the text of the totals, where it is asked for
abbrev pub stats_of : Bool → Totals → List ℕ
stats_of true totals = stats_text_of totals
stats_of false totals = []

-- the whole text of a run
abbrev pub IsOutput : Shown → List ClientLog → List Form → Totals → List ℕ → Type 0
IsOutput shown logs forms totals text =
    (front : List ℕ) × AddsHistory shown.history logs (logs_text_of forms logs) front
    × (text ≡ front ++ stats_of shown.stats totals)
