-- A client's log that is tied to its pass: its new versions are the commits of the pass, and it
-- follows from whatever versions the pass allows.
-- Source: this project's.
use Rattle.std.specs.Prelude.{◌≡◌, List, All}
use Rattle.doc_model.specs.Agreement.{ok_places}
use Rattle.doc_model.specs.Answers.{Limits, opening_account}
use Rattle.doc_model.specs.ClientLog.{ClientLog}
use Rattle.doc_model.specs.History.{Follows}
use Rattle.doc_model.specs.declared.command.Entry.{Entry}
use Rattle.doc_tree.specs.Tree.{DocTree}
use Rattle.version_rule.specs.Fits.{Fits}
use Rattle.version_rule.specs.Pass.{Pass, commit_numbers}

pub record Tied (l : Limits) (pass : Pass) (log : ClientLog) : Type 0 where
  pub own : All (λ (e : Entry). e.client ≡ log.client) log.entries
  pub commits : ok_places log.entries ≡ commit_numbers pass
  pub follows : (trees : List DocTree) → Fits trees pass
      → Follows l trees opening_account log.entries
