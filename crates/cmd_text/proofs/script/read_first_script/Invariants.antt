use Rattle.std.proofs.Common.{◌≡◌, length}
use Rattle.line_texts.specs.Lines.{lines_of}
use Rattle.cmd_text.specs.Script.{first_script_of}
use Rattle.cmd_text.proofs.Lines.{with_front, left_after}
use Rattle.cmd_text.proofs.script.read_first_script.Given as goal

abbrev pub invariant-loop-line : goal.invariant-loop-line
invariant-loop-line l = record {
  count : l.number ≡ length l.yielded;
  so_far : with_front l.commands.items (left_after (length l.yielded) (lines_of l.bytes))
      ≡ first_script_of l.bytes;
}
