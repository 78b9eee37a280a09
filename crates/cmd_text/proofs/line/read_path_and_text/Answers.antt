-- What follows the path of a plain line is plain.
use Rattle.std.proofs.Common.{rules}
use Rattle.line_texts.proofs.Cuts.{list_all-drop}
use Rattle.cmd_text.proofs.line.read_path_and_text.Goals as goal

pub read_text-requires : goal.read_text-requires
read_text-requires c = search (rules, list_all-drop)
