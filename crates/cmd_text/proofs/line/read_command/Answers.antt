-- What follows the first word of a plain line is plain.
use Rattle.std.proofs.Common.{rules}
use Rattle.line_texts.proofs.Cuts.{list_all-drop}
use Rattle.cmd_text.proofs.line.read_command.Goals as goal

pub read_arguments-requires : goal.read_arguments-requires
read_arguments-requires c = search (rules, list_all-drop)
