use Rattle.std.proofs.Common.{◌++◌, ◌∙◌, ap, string_bytes, codes}
use Rattle.line_texts.specs.CellTexts.{colour_text, field_text}
use Rattle.heap_census.proofs.Lines.{line_first, line_more, line_done}
use Rattle.heap_census.proofs.writing.line_of.Goals as goal

pub loop-i-init : goal.loop-i-init
loop-i-init g c = λ h shows.
    line_first h c.args.cell c.colour_text-colour.result.now (string_bytes c.in_ok-line.line)
    (c.colour_text-colour.ensures ∙ ap colour_text (c.colour.ensures h shows))
    c.in_ok-line.ensures.ok

pub loop-i-preserved : goal.loop-i-preserved
loop-i-preserved g c = λ h shows.
    let line = string_bytes c.loop-i.line in
    line_more h c.args.cell c.loop-i.i line (string_bytes c.in_ok-line-2.line)
    (c.loop-i.invariant h shows)
    (c.in_ok-line-2.ensures
    ∙ ap (λ field. line ++ (codes " " ++ field_text field)) (c.field.ensures h shows))

pub returns : goal.returns
returns g c = λ h shows.
    line_done h c.args.cell c.loop-i.i (string_bytes c.loop-i.line)
    (string_bytes c.push_str.new.self) (c.loop-i.invariant h shows) c.loop-i.auto.i-end
    c.loop-i-test.false c.in_ok-push_str.ensures.bytes
