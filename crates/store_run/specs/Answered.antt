-- What the clients of a run were answered: each the commands of its script, and all of them
-- together as one store would.
--
-- The trees are the versions that the clients made, the empty one first.
-- Source: this project's.
use Rattle.std.specs.Prelude.{◌≡◌, List, length, map}
use Rattle.doc_model.specs.Agreement.{Agree, MergedIsLegal, rising}
use Rattle.doc_model.specs.Answers.{Limits}
use Rattle.doc_model.specs.ClientLog.{ClientLog}
use Rattle.doc_model.specs.Merge.{IsMerge}
use Rattle.doc_model.specs.declared.command.Command.{Command}
use Rattle.doc_model.specs.declared.command.Entry.{Entry}
use Rattle.doc_tree.specs.Tree.{DocTree}

-- The commands of a log.
abbrev pub commands_of : ClientLog → List Command
commands_of log = map (λ (e : Entry). e.command) log.entries

pub record Answered (limits : Limits) (scripts : List (List Command)) (logs : List ClientLog)
    (trees : List DocTree) : Type 0 where
  -- a log for each script, of clients 1, 2 and so on: it has the script's commands, in order
  pub clients : map (λ (g : ClientLog). g.client) logs ≡ rising 0 (length scripts)
  pub commands : map commands_of logs ≡ scripts
  -- the logs agree on these trees, and merged they are a legal history
  pub agree : Agree limits trees logs
  pub merged : (entries : List Entry) → IsMerge logs entries
      → MergedIsLegal limits trees logs entries
