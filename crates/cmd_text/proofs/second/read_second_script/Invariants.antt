use Rattle.std.proofs.Common.{◌≡◌, ◌+◌, ◌≤◌, length}
use Rattle.cmd_text.specs.Second.{second_from, second_script_of}
use Rattle.cmd_text.proofs.Lines.{with_front}
use Rattle.line_texts.proofs.Rests.{left}
use Rattle.line_texts.specs.Lines.{lines_left}
use Rattle.cmd_text.proofs.second.read_second_script.Given as goal

abbrev pub invariant-loop-rest : goal.invariant-loop-rest
invariant-loop-rest l = record {
  few : l.number + left l.rest ≤ length l.bytes + 1;
  so_far : with_front l.commands.items (second_from (l.number + 1) l.batch (lines_left l.rest))
      ≡ second_script_of l.bytes;
}

abbrev pub decreases-loop-rest : goal.decreases-loop-rest
decreases-loop-rest l = left l.rest
