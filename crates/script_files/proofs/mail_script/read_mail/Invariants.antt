use Rattle.std.proofs.Common.{All, ◌≡◌, ◌+◌, ◌<◌, ◌≤◌, ◌^◌, length}
use Rattle.script_files.specs.MailScript.{script_of, values_from}
use Rattle.script_files.proofs.MailTurns.{with_front}
use Rattle.line_texts.proofs.Rests.{left}
use Rattle.line_texts.specs.Lines.{lines_left}
use Rattle.script_files.proofs.mail_script.read_mail.Given as goal

abbrev pub invariant-loop-rest : goal.invariant-loop-rest
invariant-loop-rest l = record {
  few : l.number + left l.rest ≤ length l.bytes + 1;
  small : All (λ value. value < 2 ^ 32) l.values.items;
  so_far : with_front l.values.items (values_from (l.number + 1) (lines_left l.rest))
      ≡ script_of l.bytes;
}

abbrev pub decreases-loop-rest : goal.decreases-loop-rest
decreases-loop-rest l = left l.rest
