-- The summary of a run of generated scripts: its merged history is one of a store.
use Rattle.std.proofs.Common.{◌≡◌, ℕ, ◌+◌, ◌≤◌, List, [], ◌∷◌, length}
use Rattle.std.proofs.Common.{map, Bool, true, refl, sym, ap, subst, ◌∙◌, arith}
use Rattle.std.specs.Prelude.{IsTrue, ◌↔◌, sum_by}
use Rattle.std.proofs.lemmas.List.{length-map}
use Rattle.std.proofs.lemmas.List.Concat.{length-flat_map}
use Rattle.std.proofs.lemmas.List.Sorted.{length_permutation}
use Rattle.std.proofs.lemmas.List.Sums.{sum_by-cons}
use Rattle.doc_model.specs.ClientLog.{ClientLog}
use Rattle.doc_model.specs.History.{IsLegal}
use Rattle.doc_model.specs.Merge.{IsMerge, all_entries}
use Rattle.doc_model.specs.Store.{opening}
use Rattle.doc_model.specs.declared.command.Command.{Command}
use Rattle.doc_model.specs.declared.command.Entry.{Entry}
use Rattle.result_text.specs.Summary.{summary_text_of}
use Rattle.result_text.specs.declared.summary.Made.{Made}
use Rattle.command_line.specs.declared.request.GenWords.{GenWords}
use Rattle.run_limits.specs.declared.TheConstants.{MOST_COMMANDS}
use Rattle.script_files.proofs.Counting.{scripts_few, scripts_length, texts_length}
use Rattle.script_files.specs.Made.{texts_from}
use Rattle.store_run.specs.Answered.{commands_of}
use Rattle.store_run.specs.declared.finished.Finished.{Finished}
use Rattle.doc_run.specs.Clients.{IsRunGiven, IsMade, default_options}
use Rattle.doc_run.specs.Made.{IsSummaryOf, numbers_of}

each : (logs : List ClientLog)
    → sum_by (λ (g : ClientLog). length g.entries) logs ≡ sum_by length (map commands_of logs)
each [] = refl
each (log ∷ logs) =
    let here : length (commands_of log) ≡ length log.entries =
    length-map log.entries (λ (e : Entry). e.command) in
    omega (
      arith,
      here,
      each logs,
      sum_by-cons (λ (g : ClientLog). length g.entries) log logs,
      sum_by-cons length (commands_of log) (map commands_of logs),
    )

-- the logs have as many entries as the scripts have commands
entries_of_logs : (logs : List ClientLog) (scripts : List (List Command))
    → map commands_of logs ≡ scripts
    → sum_by (λ (g : ClientLog). length g.entries) logs ≡ sum_by length scripts
entries_of_logs logs scripts is = subst
    (λ s. sum_by (λ (g : ClientLog). length g.entries) logs ≡ sum_by length s) is (each logs)

-- a merged history is not too long to be looked at
few_entries : (made : GenWords) (f : Finished) (merged : List Entry)
    → IsRunGiven (IsMade made) default_options f → IsMerge f.logs.items merged
    → length merged ≤ MOST_COMMANDS
few_entries made f merged comes is =
    let logs = f.logs.items in
    let texts = texts_from made.start made.commands 1 made.clients in
    let few : 0 + sum_by length comes.0 ≤ MOST_COMMANDS =
    scripts_few 1 0 texts comes.0 (omega arith) comes.1 in
    omega (
      arith,
      few,
      length_permutation (all_entries logs) merged is.same,
      length-flat_map (λ (g : ClientLog). g.entries) logs,
      entries_of_logs logs comes.0 comes.2.answered.commands,
    )

-- there is a log for each client
logs_many : (made : GenWords) (f : Finished) → IsRunGiven (IsMade made) default_options f
    → length f.logs.items ≡ made.clients
logs_many made f comes =
    let texts = texts_from made.start made.commands 1 made.clients in
    sym (length-map f.logs.items commands_of) ∙ ap length comes.2.answered.commands
    ∙ scripts_length 1 0 texts comes.0 comes.1
    ∙ texts_length made.start made.commands 1 made.clients

-- so the summary says that it is one of a store
is_summary : (made : GenWords) (f : Finished) (merged : List Entry) (legal : Bool)
    (numbers : Made) (text : List ℕ) → IsRunGiven (IsMade made) default_options f
    → IsMerge f.logs.items merged
    → (IsTrue legal ↔ IsLegal (opening made.clients (record { keep = 8; versions = 1000000 }))
    merged) → numbers ≡ numbers_of made
    → text ≡ summary_text_of numbers merged f.totals.nodes legal → IsSummaryOf made f text
is_summary made f merged legal numbers text comes is looked same said =
    let history = (comes.2.answered.merged merged is).1 in
    let yes : legal ≡ true = looked.1 (subst
    (λ n. IsLegal (opening n (record { keep = 8; versions = 1000000 })) merged)
    (logs_many made f comes) history) in (
      merged,
      is,
      said ∙ ap (λ n. summary_text_of n merged f.totals.nodes legal) same
          ∙ ap (λ l. summary_text_of (numbers_of made) merged f.totals.nodes l) yes,
    )

-- the same in the terms of the code, which lends the logs and the history
pub few_looked : (made : GenWords) (f : Finished) (logs : List ClientLog)
    (merged looked : List Entry) → IsRunGiven (IsMade made) default_options f
    → logs ≡ f.logs.items → IsMerge logs merged → looked ≡ merged
    → length looked ≤ MOST_COMMANDS
few_looked made f logs merged looked comes lent is same =
    let few = few_entries made f merged comes (subst (λ l. IsMerge l merged) lent is) in
    subst (λ l. length l ≤ MOST_COMMANDS) (sym same) few

pub summary_told : (made : GenWords) (f : Finished) (logs : List ClientLog)
    (merged looked written : List Entry) (legal : Bool) (numbers : Made) (text : List ℕ)
    → IsRunGiven (IsMade made) default_options f → logs ≡ f.logs.items → IsMerge logs merged
    → looked ≡ merged
    → (IsTrue legal ↔ IsLegal (opening made.clients (record { keep = 8; versions = 1000000 }))
    looked) → numbers ≡ numbers_of made → written ≡ merged
    → text ≡ summary_text_of numbers written f.totals.nodes legal → IsSummaryOf made f text
summary_told made f logs merged looked written legal numbers text comes lent is same told by last
    said =
    is_summary made f merged legal numbers text comes (subst (λ l. IsMerge l merged) lent is)
    (subst (λ l. IsTrue legal
    ↔ IsLegal (opening made.clients (record { keep = 8; versions = 1000000 })) l) same told) by
    (said ∙ ap (λ l. summary_text_of numbers l f.totals.nodes legal) last)
