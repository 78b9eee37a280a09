-- What the clients of the scripts of files were answered, and the text of it.
-- Source: this project's own.
use Rattle.std.specs.Prelude.{ℕ, List, Option}
use Rattle.cmd_text.specs.declared.form.Form.{Form}
use Rattle.doc_model.specs.Answers.{Limits}
use Rattle.doc_model.specs.declared.command.Command.{Command}
use Rattle.doc_tree.specs.Tree.{DocTree}
use Rattle.result_text.specs.Output.{IsOutput}
use Rattle.result_text.specs.declared.output.Shown.{Shown}
use Rattle.command_line.specs.Requests.{RunAsked}
use Rattle.script_files.specs.Formed.{AreRead}
use Rattle.store_run.specs.Answered.{Answered}
use Rattle.store_run.specs.declared.finished.Finished.{Finished}

-- the limits by which each command is answered
abbrev pub limits_by : RunAsked → Limits
limits_by run = record { keep = run.keep; versions = run.versions }

-- what is written after the replies of a run
abbrev pub shown_of : RunAsked → Shown
shown_of run = record { history = run.history; stats = run.stats }

-- The text is that of the replies in what a run came to, by the words that asked for it.
pub record AreReplies (told : List (Option (List ℕ))) (run : RunAsked) (f : Finished)
    (text : List ℕ) : Type 0 where
  -- the scripts of the files, and the forms of their texts
  pub scripts : List (List Command)
  pub forms : List Form
  pub read : AreRead told scripts forms
  -- each client was answered its script's commands, as one store with these versions would
  pub trees : List DocTree
  pub answered : Answered (limits_by run) scripts f.logs.items trees
  -- the text has all replies, and what the words ask for after them
  pub output : IsOutput (shown_of run) f.logs.items forms f.totals text
