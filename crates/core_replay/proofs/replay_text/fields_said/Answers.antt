use Rattle.std.proofs.Common.{◌∙◌, ◌++◌, ap, codes, string_bytes}
use Rattle.line_texts.specs.CellTexts.{field_text}
use Rattle.core_replay.proofs.Fields.{all_fields, fields_more}
use Rattle.core_replay.proofs.replay_text.fields_said.Goals as goal

pub loop-i-preserved : goal.loop-i-preserved
loop-i-preserved c =
    let text = string_bytes c.loop-i.text in
    fields_more c.args.core.now c.args.cell c.loop-i.i text (string_bytes c.in_ok-text.text)
    c.loop-i.invariant
    (c.in_ok-text.ensures
    ∙ ap (λ field. text ++ (codes " " ++ field_text field)) c.field.ensures.field)

pub returns : goal.returns
returns c =
    all_fields c.args.core.now c.args.cell c.loop-i.i (string_bytes c.loop-i.text)
    c.loop-i.invariant c.loop-i.auto.i-end c.loop-i-test.false
