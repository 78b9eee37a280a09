use Rattle.std.proofs.Common.{rules}
use Rattle.line_texts.proofs.line.counts.Goals as goal

pub returns : goal.returns
returns c = search rules
