use Rattle.std.proofs.Common.{sym, ap, ◌∙◌}
use Rattle.line_texts.specs.Lines.{is_end, lines_left}
use Rattle.line_texts.proofs.Rests.{empty_ends}
use Rattle.line_texts.proofs.lines.is_end.Goals as goal

pub returns-in-Some : goal.returns-in-Some
returns-in-Some c =
    empty_ends c.in-Some.rest.now c.is_empty.result c.is_empty.ensures
    ∙ ap (λ r. is_end (lines_left r)) (sym c.in-Some.is)
