-- Generated scripts: the summary of their run, the one that is printed, and which status is due.
-- Source: this project's own.
use Rattle.std.specs.Prelude.{◌≡◌, ◌≢◌, ℕ, ◌*◌, ◌<◌, ◌≤◌, List, ◌⊎◌, ◌↔◌, true}
use Rattle.doc_model.specs.Merge.{IsMerge}
use Rattle.doc_model.specs.declared.command.Entry.{Entry}
use Rattle.result_text.specs.Summary.{summary_text_of}
use Rattle.result_text.specs.declared.summary.Made.{Made}
use Rattle.command_line.specs.declared.request.GenWords.{GenWords}
use Rattle.run_limits.specs.declared.TheConstants.{MOST_COMMANDS}
use Rattle.script_files.specs.Generated.{generated_of}
use Rattle.store_run.specs.declared.finished.Finished.{Finished}

-- by which numbers scripts are generated
abbrev pub numbers_of : GenWords → Made
numbers_of made = record {
  start = made.start;
  clients = made.clients;
  commands = made.commands;
}

-- the summary of a run of generated scripts: its merged history is one of a store
abbrev pub IsSummaryOf : GenWords → Finished → List ℕ → Type 0
IsSummaryOf made f text =
    (merged : List Entry) × IsMerge f.logs.items merged
    × (text ≡ summary_text_of (numbers_of made) merged f.totals.nodes true)

-- the script that is printed
abbrev pub printed_of : GenWords → ℕ → List ℕ
printed_of made client = generated_of made.start client made.commands

-- the status is that which the numbers call for
pub record IsMadeDue (made : GenWords) (status : ℕ) : Type 0 where
  -- refused for too many commands
  pub large : (status ≡ 6) ↔ ((status ≢ 5) × (MOST_COMMANDS < made.clients * made.commands))
  -- not refused: done, or the output could not be written, or memory was wanting
  pub complete : made.clients * made.commands ≤ MOST_COMMANDS
      → (status ≡ 0) ⊎ (status ≡ 4) ⊎ (status ≡ 5)
